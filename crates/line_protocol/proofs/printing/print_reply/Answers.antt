use Rattle.std.proofs.Common.{◌∷◌, [], ◌^◌, ◌<◌, refl, rules, arith, SFits, w64, codes, unsigned_abs}
use Rattle.std.specs.Fmt.{signed_decimal}
use Rattle.std.proofs.lemmas.Int.{ints}
use Rattle.line_protocol.specs.Replies.{place}
use Rattle.line_protocol.proofs.OneLine.{known_line, place_line, placed_line, signed_line, joined_line}
use Rattle.line_protocol.proofs.printing.print_reply.Goals as goal

pub returns-in-Cash-clause-one_line : goal.returns-in-Cash-clause-one_line
returns-in-Cash-clause-one_line c =
    let position : c.in-Cash.position < 2 ^ 32 = search rules in
    let fits : SFits w64 c.in-Cash.dollars = search rules in
    let dollars : unsigned_abs c.in-Cash.dollars < 2 ^ 64 = search (arith, ints) in
    rw c.in-Cash.is (joined_line (place c.in-Cash.position ∷ codes "cash" ∷ signed_decimal c.in-Cash.dollars ∷ []) (place_line c.in-Cash.position position, (known_line (codes "cash") refl, (signed_line c.in-Cash.dollars dollars, tt))))

pub returns-in-At-clause-one_line : goal.returns-in-At-clause-one_line
returns-in-At-clause-one_line c =
    let position : c.in-At.position < 2 ^ 32 = search rules in
    rw c.in-At.is (placed_line c.in-At.position c.in-At.reply position c.print_answer.ensures.one_line)
