use Rattle.std.proofs.Common.{◌≡◌, ℕ, List, ◌++◌, take, codes}
use Rattle.text_forms.proofs.RowLoops.{spaced}
use Rattle.game_text.proofs.seat_words.print_seats.Given as goal

abbrev pub invariant-loop-word : goal.invariant-loop-word
invariant-loop-word l = let word : List ℕ → List ℕ = λ w. w in l.out.items ≡ l.fn.out.items ++ (codes "words" ++ spaced word (take l.word-index l.words))
