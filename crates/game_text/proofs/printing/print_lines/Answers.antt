use Rattle.std.proofs.Common.{◌≡◌, ℕ, List, [], ◌∷◌, ◌++◌, ℤ, sym, ap, ◌∙◌, subst, codes}
use Rattle.game_text.specs.{text_of, lines_of_parts, one_line, row_text, header_text, night_lines, seats_text, flight_text, order_text, endow_text, client_lines, GameFile, nights_of, canonical_text}
use Rattle.game_text.proofs.PrintedGames.{in_parts, spelled}
use Rattle.game_text.proofs.printing.print_lines.Goals as goal

pub returns-clause-text : goal.returns-clause-text
returns-clause-text c =
    let fields = c.game.inside in
    let game : GameFile = record { version = fields.version; words = fields.words; flights = fields.flights; order = fields.order; rooms = fields.rooms; live = fields.live; endow = fields.endow; clients = fields.clients } in
    let old = c.args.out.now.items in
    let parts = in_parts old (header_text game.version ++ 10 ∷ []) (seats_text game.words ++ 10 ∷ []) (text_of (lines_of_parts (one_line flight_text) 0 game.flights)) (order_text game.order ++ 10 ∷ []) (text_of (night_lines game.version (nights_of game))) (text_of (lines_of_parts (one_line endow_text) 0 game.endow)) (text_of (lines_of_parts client_lines 0 game.clients)) (codes "end\n") c.print_header.new.out.items c.print_seats.new.out.items c.print_parts.new.out.items c.print_row.new.out.items c.print_nights.new.out.items c.print_parts-2.new.out.items c.print_parts-3.new.out.items c.extend_from_slice.new.self.items
    c.in_ok-print_header.ensures
    c.in_ok-print_seats.ensures
    c.in_ok-print_parts.ensures
    (c.in_ok-print_row.ensures.added ∙ ap (λ (ns : List ℤ). c.print_parts.new.out.items ++ (row_text (codes "close") ns ++ 10 ∷ [])) c.order_numbers.ensures)
    c.in_ok-print_nights.ensures
    c.in_ok-print_parts-2.ensures
    c.in_ok-print_parts-3.ensures
    c.in_ok-extend_from_slice.ensures.items
    in
    subst (λ (g : GameFile). c.extend_from_slice.new.self.items ≡ old ++ canonical_text g) c.game.view_is (parts ∙ ap (λ (t : List ℕ). old ++ t) (sym (spelled game)))
