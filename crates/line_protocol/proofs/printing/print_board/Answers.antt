use Rattle.std.proofs.Common.{◌∷◌, [], ◌^◌, ◌<◌, refl, rules, decimal, codes}
use Rattle.line_protocol.specs.Replies.{place}
use Rattle.line_protocol.proofs.JoinedWords.{state_word}
use Rattle.line_protocol.proofs.OneLine.{known_line, number_line, place_line, joined_line}
use Rattle.line_protocol.proofs.printing.print_board.Goals as goal

pub returns-clause-one_line : goal.returns-clause-one_line
returns-clause-one_line c =
    let board = c.args.board.now in
    let count : c.args.board.now.count < 2 ^ 32 = search rules in
    let bid : c.args.board.now.bid < 2 ^ 32 = search rules in
    let ask : c.args.board.now.ask < 2 ^ 32 = search rules in
    joined_line (place board.count ∷ codes "quote" ∷ decimal board.bid ∷ decimal board.ask ∷ state_word board.closed ∷ [])
    (place_line board.count count, (known_line (codes "quote") refl, (number_line board.bid bid, (number_line board.ask ask, (c.state_of.ensures.one_line, tt)))))
