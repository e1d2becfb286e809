-- A line of a keyword and numbers.
use Rattle.std.specs.Prelude.{ℕ, ◌≤◌, ◌==◌, ◌&&◌, not, if◌then◌else◌, List, [], ◌∷◌, Bool, false, ℤ, pos, int_le, Result, Ok, Err, Option, Some, None, length, map, option_map, zip, All, bytes_eq}
use Rattle.std.specs.Fmt.{signed_decimal}
use Rattle.std.specs.List.{list_all, join_with_byte}
use Rattle.tac_base.specs.Numerals.{numeral, signed_numeral}
use Rattle.text_forms.specs.declared.lines.Reason.{Reason}
use Rattle.text_forms.specs.declared.lines.Reason.TheVariants.{Keyword, WordCount, Spelling, OutOfRange}
use Rattle.tac_base.specs.declared.limits.TheConstants.{CASH_DIGITS}
use Rattle.text_forms.specs.declared.rows.Column.{Column}
use Rattle.text_forms.specs.declared.rows.Digits.{Digits}
use Rattle.text_forms.specs.declared.rows.Digits.TheVariants.{Ten, Eighteen}
use Rattle.text_forms.specs.Words.{words_of}

-- the most digits of a numeral
abbrev pub most_digits : Digits → ℕ
most_digits Ten = 10
most_digits Eighteen = CASH_DIGITS

-- the column of the numerals of at most ten digits in a range
abbrev pub within : ℕ → ℕ → Column
within low high = record { signed = false; digits = Ten; low = pos low; high = pos high }

-- the number of a word in a column: a numeral with at most the column's digits, signed or not
abbrev pub number_in_column : Column → List ℕ → Option ℤ
number_in_column column word = if column.signed then signed_numeral (most_digits column.digits) word else option_map pos (numeral (most_digits column.digits) word)

-- a number in front of others
abbrev pub followed_by : Option ℤ → Option (List ℤ) → Option (List ℤ)
followed_by None others = None
followed_by (Some number) others = option_map (λ numbers. number ∷ numbers) others

-- the numbers of the words, each in its column
abbrev pub numbers_of : List Column → List (List ℕ) → Option (List ℤ)
numbers_of [] words = Some []
numbers_of (column ∷ columns) [] = None
numbers_of (column ∷ columns) (word ∷ words) = followed_by (number_in_column column word) (numbers_of columns words)

-- whether a number is in the range of its column
abbrev pub is_in : Column → ℤ → Bool
is_in column number = int_le column.low number && int_le number column.high

-- whether each number is in the range of its column
abbrev pub all_in : List Column → List ℤ → Bool
all_in columns numbers = list_all (λ pair. is_in pair.0 pair.1) (zip columns numbers)

-- the numbers, or the reason why the words are not numbers of the row
abbrev pub in_range : List Column → Option (List ℤ) → Result (List ℤ) Reason
in_range columns None = Err Spelling
in_range columns (Some numbers) = if all_in columns numbers then Ok numbers else Err OutOfRange

-- the numbers of the words of a line, or the first reason that applies: the keyword, the number of words, their spelling, their ranges
abbrev pub row_of_words : List ℕ → List Column → List (List ℕ) → Result (List ℤ) Reason
row_of_words keyword columns [] = Err Keyword
row_of_words keyword columns (first ∷ words) =
    if not (bytes_eq first keyword) then Err Keyword
    else if not (length words == length columns) then Err WordCount
    else in_range columns (numbers_of columns words)

-- the numbers of a line, or the first reason that applies
unfoldable pub row : List ℕ → List Column → List ℕ → Result (List ℤ) Reason
row keyword columns line = row_of_words keyword columns (words_of line)

-- the one spelling of a row
abbrev pub row_text : List ℕ → List ℤ → List ℕ
row_text keyword numbers = join_with_byte 32 (keyword ∷ map signed_decimal numbers)

-- the numbers from low to high, both included
abbrev pub IsBetween : ℕ → ℕ → ℕ → Type 0
IsBetween low high n = (low ≤ n) × (n ≤ high)

abbrev pub AllBetween : ℕ → ℕ → List ℕ → Type 0
AllBetween low high numbers = All (IsBetween low high) numbers
