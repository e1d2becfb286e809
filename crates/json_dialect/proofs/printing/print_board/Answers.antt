use Rattle.std.proofs.Common.{◌∷◌, [], ◌^◌, ◌<◌, refl, rules, decimal, codes}
use Rattle.line_protocol.proofs.OneLine.{known_line}
use Rattle.json_dialect.specs.JsonReplies.{pair_text, quote_members, openness}
use Rattle.json_dialect.proofs.OneObject.{whole_line, numbers_line, placed_line}
use Rattle.json_dialect.proofs.printing.print_board.Goals as goal

pub returns-clause-one_line : goal.returns-clause-one_line
returns-clause-one_line c =
    let board = c.args.board.now in
    let bid : c.args.board.now.bid < 2 ^ 32 = search rules in
    let ask : c.args.board.now.ask < 2 ^ 32 = search rules in
    let members = whole_line (codes "\"quote\":" ∷ pair_text (decimal board.bid) (decimal board.ask) ∷ codes ",\"open\":" ∷ openness board.closed ∷ [])
    (known_line (codes "\"quote\":") refl, (numbers_line board.bid board.ask bid ask, (known_line (codes ",\"open\":") refl, (c.openness.ensures.one_line, tt)))) in
    placed_line board.count (quote_members board) c.print_place.ensures.one_line members
