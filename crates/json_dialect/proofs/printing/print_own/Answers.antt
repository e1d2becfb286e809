use Rattle.std.proofs.Common.{◌++◌, ◌≡◌, ap, ℕ, length, rules, arith, codes, length-append}
use Rattle.std.specs.Fmt.{signed_decimal}
use Rattle.json_dialect.specs.JsonReplies.{points_text}
use Rattle.json_dialect.proofs.OneObject.{four_pieces}
use Rattle.json_dialect.proofs.printing.print_own.Goals as goal

pub returns-clause-one_line : goal.returns-clause-one_line
returns-clause-one_line c = c.print_left.ensures.one_line

pub print_left-requires : goal.print_left-requires
print_left-requires c = omega (arith, ap length c.push_bytes.ensures, c.print_signed.ensures.len, ap length c.push_bytes-2.ensures, length-append {A = ℕ}, c.requires)

pub returns-clause-value : goal.returns-clause-value
returns-clause-value c =
    let holding : c.print_signed.new.out ≡ c.push_bytes.new.self ++ signed_decimal c.args.holding = search rules in
    four_pieces c.args.out.now (codes "\"own\":") (signed_decimal c.args.holding) (codes ",\"points\":") (points_text c.args.left.now) c.push_bytes.new.self c.print_signed.new.out c.push_bytes-2.new.self c.print_left.new.out
    c.push_bytes.ensures holding c.push_bytes-2.ensures c.print_left.ensures.value
