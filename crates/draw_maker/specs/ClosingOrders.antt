-- The closing order of a generated game.
use Rattle.std.specs.Prelude.{ℕ, ◌+◌, ◌%◌, List, [], ◌∷◌, fold, swap, zip}

-- a draw for index i, counted from 0: swaps the item there with the one at index `word mod (i + 1)`
abbrev pub exchanged : List ℕ → ℕ × ℕ → List ℕ
exchanged order (i, word) = swap order i (word % (i + 1))

-- 7 words: the hotel nights in ascending order, and then a draw for each of the indices 7, 6, .., 1
abbrev pub made_order : List ℕ → List ℕ
made_order words = fold exchanged (8 ∷ 9 ∷ 10 ∷ 11 ∷ 12 ∷ 13 ∷ 14 ∷ 15 ∷ []) (zip (7 ∷ 6 ∷ 5 ∷ 4 ∷ 3 ∷ 2 ∷ 1 ∷ []) words)
