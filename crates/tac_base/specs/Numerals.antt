-- The numerals in all texts, in the one form that this project defines.
use Rattle.std.specs.Prelude.{ℕ, zero, suc, ◌+◌, ◌-◌, ◌*◌, ◌==◌, ◌&&◌, not, nat_le, nat_lt, if◌then◌else◌, List, [], ◌∷◌, Bool, false, ℤ, pos, negsuc, Option, Some, None, length, option_and_then, option_map}
use Rattle.std.specs.Str.{all_ascii_digits}

-- a digit, or several digits that do not begin with `0`
abbrev pub is_numeral : List ℕ → Bool
is_numeral [] = false
is_numeral (first ∷ rest) = all_ascii_digits (first ∷ rest) && not (first == 48 && nat_lt 0 (length rest))

-- the number whose decimal digits are those of `n` and then these
abbrev pub value_from : ℕ → List ℕ → ℕ
value_from n [] = n
value_from n (digit ∷ digits) = value_from (n * 10 + (digit - 48)) digits

-- the number that a numeral of at most this many digits stands for
-- Row: numerals_have_one_form (worked_rows/proofs/Bids.antt)
unfoldable pub numeral : ℕ → List ℕ → Option ℕ
numeral digits word = if is_numeral word && nat_le (length word) digits then Some (value_from 0 word) else None

-- the negative of a number above 0; there is no `-0`
abbrev pub opposite : ℕ → Option ℤ
opposite zero = None
opposite (suc n) = Some (negsuc n)

-- a numeral, or `-` and a numeral other than `0`
-- Row: numerals_have_one_form (worked_rows/proofs/Bids.antt)
unfoldable pub signed_numeral : ℕ → List ℕ → Option ℤ
signed_numeral digits [] = None
signed_numeral digits (first ∷ rest) = if first == 45 then option_and_then opposite (numeral digits rest) else option_map pos (numeral digits (first ∷ rest))

-- a number, if it is below a limit
abbrev pub below : ℕ → Option ℕ → Option ℕ
below limit None = None
below limit (Some n) = if nat_lt n limit then Some n else None

-- a number, if it fits in 64 bits with a sign
abbrev pub within_i64 : Option ℤ → Option ℤ
within_i64 None = None
within_i64 (Some (pos n)) = if nat_lt n 9223372036854775808 then Some (pos n) else None
within_i64 (Some (negsuc n)) = if nat_lt n 9223372036854775808 then Some (negsuc n) else None
