use Rattle.std.proofs.Common.{◌∷◌, [], ◌^◌, ◌<◌, refl, sym, rules, decimal, codes}
use Rattle.line_protocol.proofs.OneLine.{known_line, number_line}
use Rattle.json_dialect.proofs.OneObject.{whole_line}
use Rattle.json_dialect.proofs.printing.print_bid_fault.Goals as goal

pub returns-clause-one_line : goal.returns-clause-one_line
returns-clause-one_line c =
    let small : c.number_of.result < 2 ^ 32 = search rules in
    whole_line (codes "{\"no\":\"bid\",\"fault\":" ∷ decimal _ ∷ codes "}" ∷ []) (known_line (codes "{\"no\":\"bid\",\"fault\":") refl, (number_line _ (rw (sym c.number_of.ensures) small), (known_line (codes "}") refl, tt)))
