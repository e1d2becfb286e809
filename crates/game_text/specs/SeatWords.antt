-- The seat words.
use Rattle.std.specs.Prelude.{◌≡◌, ℕ, ◌≤◌, ◌-◌, ◌&&◌, ◌||◌, not, nat_le, nat_lt, ◌==◌, if◌then◌else◌, List, [], ◌∷◌, ◌++◌, Bool, true, Result, Ok, Err, IsTrue, codes, length, take, replicate, bytes_eq}
use Rattle.std.specs.List.{list_all, list_any, join_with_byte}
use Rattle.tac_base.specs.declared.limits.TheConstants.{AGENTS}
use Rattle.text_forms.specs.Words.{words_of}
use Rattle.text_forms.specs.declared.lines.Reason.{Reason}
use Rattle.text_forms.specs.declared.lines.Reason.TheVariants.{Keyword, WordCount, Spelling, Repeated}

-- `a`..`z` and `0`..`9`
abbrev pub is_seat_byte : ℕ → Bool
is_seat_byte b = (nat_le 97 b && nat_le b 122) || (nat_le 48 b && nat_le b 57)

-- 1 to 16 of these bytes
abbrev pub is_seat_word : List ℕ → Bool
is_seat_word word = nat_lt 0 (length word) && nat_le (length word) 16 && list_all is_seat_byte word

-- a seat word of this length, padded with zeros
pub record IsPadded (bytes : List ℕ) (len : ℕ) : Type 0 where
  pub whole : length bytes ≡ 16
  pub few : len ≤ 16
  pub zeros : bytes ≡ take len bytes ++ replicate (16 - len) 0
  pub form : IsTrue (is_seat_word (take len bytes))

-- the words `seat0` to `seat7`
abbrev pub numbered_seats : List (List ℕ)
numbered_seats = codes "seat0" ∷ codes "seat1" ∷ codes "seat2" ∷ codes "seat3" ∷ codes "seat4" ∷ codes "seat5" ∷ codes "seat6" ∷ codes "seat7" ∷ []

-- no word occurs twice
abbrev pub are_distinct : List (List ℕ) → Bool
are_distinct [] = true
are_distinct (word ∷ words) = not (list_any (λ other. bytes_eq other word) words) && are_distinct words

-- the seat words among the words of a line
abbrev pub seats_of_words : List (List ℕ) → Result (List (List ℕ)) Reason
seats_of_words [] = Err Keyword
seats_of_words (first ∷ words) =
    if not (bytes_eq first (codes "words")) then Err Keyword
    else if not (length words == AGENTS) then Err WordCount
    else if not (list_all is_seat_word words) then Err Spelling
    else if not (are_distinct words) then Err Repeated
    else Ok words

-- the seat words in a line, or the first reason that applies
unfoldable pub seats_of : List ℕ → Result (List (List ℕ)) Reason
seats_of line = seats_of_words (words_of line)

-- the line of the seat words
abbrev pub seats_text : List (List ℕ) → List ℕ
seats_text words = join_with_byte 32 (codes "words" ∷ words)

-- eight different seat words
pub record AreSeats (words : List (List ℕ)) : Type 0 where
  pub count : length words ≡ AGENTS
  pub form : IsTrue (list_all is_seat_word words)
  pub apart : IsTrue (are_distinct words)
