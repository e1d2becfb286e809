use Rattle.std.proofs.Common.{◌≡◌, ℕ, List, ◌∷◌, ◌++◌, [], map, arith, codes, map-id}
use Rattle.std.specs.List.{join_with_byte}
use Rattle.text_forms.proofs.RowLoops.{line_done}
use Rattle.game_text.proofs.seat_words.print_seats.Goals as goal

pub returns : goal.returns
returns c =
    let words = c.args.words.now in
    let word : List ℕ → List ℕ = λ w. w in
    let line : c.push.new.self.items ≡ c.args.out.now.items ++ (join_with_byte 32 (codes "words" ∷ map word words) ++ 10 ∷ []) = line_done word c.args.out.now.items (codes "words") c.loop-word.out.items c.push.new.self.items words c.loop-word.word-index (omega (arith, c.told-words)) c.loop-word.invariant c.in_ok-push.ensures.items in
    rw map-id at line
