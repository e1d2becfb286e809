use Rattle.std.proofs.Common.{◌≤◌, ◌<◌, ap, arith, length, ℕ, SFits, w8, w64, to_z, of_z, decimal, rules, length-append}
use Rattle.std.specs.Fmt.{signed_decimal}
use Rattle.bid_strings.proofs.PrintedPoints.{passed_units, short_price}
use Rattle.json_dialect.proofs.printing.print_point.Goals as goal

pub returns-clause-len : goal.returns-clause-len
returns-clause-len c =
    let fits : SFits w8 c.args.point.now.units = search rules in
    let small : c.args.point.now.price < 65536 = search rules in
    let units : length (signed_decimal (to_z w64 (of_z w64 c.from.result))) ≤ 4 = passed_units c.args.point.now.units c.from.result fits c.from.ensures in
    let price : length (decimal c.from-2.result) ≤ 5 = rw c.from-2.ensures (short_price c.args.point.now.price small) in
    omega (arith, ap length c.push.ensures, ap length c.print_signed.ensures.value, ap length c.push-2.ensures, ap length c.print_numeral.ensures.value, ap length c.push-3.ensures, length-append {A = ℕ}, units, price)
