-- The text of a game, printed line by line.
use Rattle.std.proofs.Common.{◌≡◌, ℕ, List, [], ◌∷◌, ◌++◌, ap, ◌∙◌, append_assoc, codes}
use Rattle.std.proofs.lemmas.List.Concat.{flat_map-cons}
use Rattle.std.proofs.lemmas.Grind.{flat_map-append}
use Rattle.game_text.specs.{text_of, lines_of_parts, one_line, header_text, night_lines, seats_text, flight_text, order_text, endow_text, client_lines, GameFile, nights_of, canonical_text}

text_append : (xs ys : List (List ℕ)) → text_of (xs ++ ys) ≡ text_of xs ++ text_of ys
text_append xs ys = flat_map-append (λ line. line ++ 10 ∷ []) xs ys

text_cons : (line : List ℕ) (lines : List (List ℕ)) → text_of (line ∷ lines) ≡ (line ++ 10 ∷ []) ++ text_of lines
text_cons line lines = flat_map-cons (λ l. l ++ 10 ∷ []) line lines

-- the parts of the text, one after the other
pub in_parts : (old first words flights order nights endow clients last : List ℕ) (o1 o2 o3 o4 o5 o6 o7 o8 : List ℕ)
    → o1 ≡ old ++ first → o2 ≡ o1 ++ words → o3 ≡ o2 ++ flights → o4 ≡ o3 ++ order → o5 ≡ o4 ++ nights → o6 ≡ o5 ++ endow → o7 ≡ o6 ++ clients → o8 ≡ o7 ++ last
    → o8 ≡ old ++ (first ++ (words ++ (flights ++ (order ++ (nights ++ ((endow ++ clients) ++ last))))))
in_parts old first words flights order nights endow clients last o1 o2 o3 o4 o5 o6 o7 o8 e1 e2 e3 e4 e5 e6 e7 e8 = rw (e8, e7, e6, e5, e4, e3, e2, e1) (simp append_assoc)

pub spelled : (game : GameFile) → canonical_text game ≡ (header_text game.version ++ 10 ∷ []) ++ ((seats_text game.words ++ 10 ∷ []) ++ (text_of (lines_of_parts (one_line flight_text) 0 game.flights)
    ++ ((order_text game.order ++ 10 ∷ []) ++ (text_of (night_lines game.version (nights_of game)) ++ ((text_of (lines_of_parts (one_line endow_text) 0 game.endow) ++ text_of (lines_of_parts client_lines 0 game.clients)) ++ codes "end\n")))))
spelled game =
    let flights = lines_of_parts (one_line flight_text) 0 game.flights in
    let endow = lines_of_parts (one_line endow_text) 0 game.endow in
    let clients = lines_of_parts client_lines 0 game.clients in
    let last = codes "end" ∷ [] in
    let agents = endow ++ clients in
    let nights = night_lines game.version (nights_of game) in
    let order = order_text game.order in
    let words = seats_text game.words in
    let first = header_text game.version in
    let rest = order ∷ (nights ++ (agents ++ last)) in
    let a : text_of (agents ++ last) ≡ (text_of endow ++ text_of clients) ++ codes "end\n" = text_append agents last ∙ ap (λ (t : List ℕ). t ++ codes "end\n") (text_append endow clients) in
    let n = text_append nights (agents ++ last) ∙ ap (λ (t : List ℕ). text_of nights ++ t) a in
    let o = text_cons order (nights ++ (agents ++ last)) ∙ ap (λ (t : List ℕ). (order ++ 10 ∷ []) ++ t) n in
    let f = text_append flights rest ∙ ap (λ (t : List ℕ). text_of flights ++ t) o in
    let w = text_cons words (flights ++ rest) ∙ ap (λ (t : List ℕ). (words ++ 10 ∷ []) ++ t) f in
    text_cons first (words ∷ (flights ++ rest)) ∙ ap (λ (t : List ℕ). (first ++ 10 ∷ []) ++ t) w
