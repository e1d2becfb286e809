use Rattle.std.proofs.Common.{◌^◌, ◌<◌, rules, arith, SFits, w64, unsigned_abs}
use Rattle.std.proofs.lemmas.Int.{ints}
use Rattle.json_dialect.proofs.OneObject.{cash_line}
use Rattle.json_dialect.proofs.printing.print_cash.Goals as goal

pub returns-clause-one_line : goal.returns-clause-one_line
returns-clause-one_line c =
    let position : c.args.position < 2 ^ 32 = search rules in
    let fits : SFits w64 c.args.dollars = search rules in
    let dollars : unsigned_abs c.args.dollars < 2 ^ 64 = search (arith, ints) in
    cash_line c.args.position c.args.dollars position dollars
