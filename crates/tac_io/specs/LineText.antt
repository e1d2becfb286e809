-- The lines in bytes: a line ends with byte 10.
use Rattle.std.specs.Prelude.{◌≡◌, ℕ, ◌+◌, List, [], ◌∷◌, ◌++◌, Bool, false, ◌||◌, ◌==◌, length, position}
use Rattle.std.specs.Option.{option_map_or}

-- whether the bytes have a line end
abbrev pub has_end : List ℕ → Bool
has_end [] = false
has_end (byte ∷ bytes) = (byte == 10) || has_end bytes

-- The bytes begin with this line and its line end; `rest` follows.
pub record BeginsWithLine (bytes line rest : List ℕ) : Type 0 where
  pub whole : bytes ≡ line ++ 10 ∷ rest
  pub first : has_end line ≡ false

-- the length of the first line, with its line end; without a line end, that of all bytes
abbrev pub line_length : List ℕ → ℕ
line_length bytes = option_map_or (λ place. place + 1) (position (λ byte. byte == 10) bytes) (length bytes)
