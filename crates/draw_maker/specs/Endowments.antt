-- The endowments of a generated game.
use Rattle.std.specs.Prelude.{ℕ, ◌%◌, List, map}

-- 12 words: zero, one or two of each ticket
abbrev pub made_endowment : List ℕ → List ℕ
made_endowment words = map (λ word. word % 3) words
