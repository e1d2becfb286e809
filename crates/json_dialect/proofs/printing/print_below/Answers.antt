use Rattle.std.proofs.Common.{◌∷◌, [], ◌++◌, ◌≡◌, ◌^◌, ◌<◌, refl, rules, decimal, append_assoc, append-nil, codes}
use Rattle.line_protocol.proofs.OneLine.{known_line, number_line}
use Rattle.json_dialect.proofs.OneObject.{whole_line}
use Rattle.json_dialect.proofs.printing.print_below.Goals as goal

pub returns-clause-value : goal.returns-clause-value
returns-clause-value c =
    let need : c.print_numeral.new.out ≡ c.push_bytes.new.self ++ decimal c.args.need = search rules in
    let at : c.print_numeral-2.new.out ≡ c.push_bytes-2.new.self ++ decimal c.args.at = search rules in
    let offered : c.print_numeral-3.new.out ≡ c.push_bytes-3.new.self ++ decimal c.args.offered = search rules in
    rw (offered, c.push_bytes-3.ensures, at, c.push_bytes-2.ensures, need, c.push_bytes.ensures) (simp (append_assoc, append-nil))

pub returns-clause-one_line : goal.returns-clause-one_line
returns-clause-one_line c =
    let need : c.args.need < 2 ^ 32 = search rules in
    let at : c.args.at < 2 ^ 32 = search rules in
    let offered : c.args.offered < 2 ^ 32 = search rules in
    whole_line (codes "\"no\":\"belowquote\",\"need\":" ∷ decimal c.args.need ∷ codes ",\"price\":" ∷ decimal c.args.at ∷ codes ",\"offered\":" ∷ decimal c.args.offered ∷ [])
    (known_line (codes "\"no\":\"belowquote\",\"need\":") refl, (number_line c.args.need need, (known_line (codes ",\"price\":") refl, (number_line c.args.at at, (known_line (codes ",\"offered\":") refl, (number_line c.args.offered offered, tt))))))
