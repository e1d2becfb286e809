-- Lines of words and numbers.
use Rattle.std.specs.Prelude.{ℕ, List, ◌++◌, decimal, codes}

-- a line of words and a number
abbrev pub counted : List ℕ → ℕ → List ℕ
counted words n = words ++ codes " " ++ decimal n ++ codes "\n"

-- a line of words and two numbers
abbrev pub numbered : List ℕ → ℕ → ℕ → List ℕ
numbered words first second = words ++ codes " " ++ decimal first ++ codes " " ++ decimal second ++ codes "\n"
