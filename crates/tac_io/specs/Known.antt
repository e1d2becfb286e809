-- What is known of the bytes and items of an object of the outside: `None`, before and after each call, if the object does not show
-- them. For the system's own files, links and clock nothing is known, so what is said of known values says nothing of these.
use Rattle.std.specs.Prelude.{◌≡◌, ℕ, ◌<◌, ◌≤◌, List, [], ◌∷◌, ◌++◌, length, take, None, Some, IfSome, MatchOption, Result, MatchResult, option_map, Option}

-- what is known, with `more` appended; still unknown if it was unknown
-- Row: known_bytes_grow_and_unknown_stay (worked_rows/proofs/Links.antt)
abbrev pub known_then : {A : Type 0} → Option (List A) → List A → Option (List A)
known_then known more = option_map (λ xs. xs ++ more) known

-- what is known, with `more` in front of it; still unknown if it was unknown
-- Row: known_bytes_grow_and_unknown_stay (worked_rows/proofs/Links.antt)
abbrev pub then_known : {A : Type 0} → List A → Option (List A) → Option (List A)
then_known more known = option_map (λ xs. more ++ xs) known

-- Nothing is left, if it is known what is left.
abbrev pub IsAtEnd : {A : Type 0} → Option (List A) → Type 0
IsAtEnd known = IfSome known (λ xs. xs ≡ [])

-- A read gave n bytes, at most `most`: those with which `bytes` begins. It took them from the front of what was left, and gave none
-- only if nothing was left. A failed read took nothing. That `bytes` has n bytes or more is a clause of its own where this is cited.
abbrev pub ReadsAtMost : {E : Type 0} → ℕ → Option (List ℕ) → Option (List ℕ) → Result ℕ E → List ℕ → Type 0
ReadsAtMost most before after result bytes = MatchResult result
    (λ n. (n ≤ most) × (before ≡ then_known (take n bytes) after) × (n ≡ 0 → IsAtEnd before))
    (λ _. after ≡ before)

-- the same of a read into `into`, which gave at most as many bytes as that has room for
abbrev pub Reads : {E : Type 0} → Option (List ℕ) → Option (List ℕ) → Result ℕ E → List ℕ → Type 0
Reads before after result into = ReadsAtMost (length into) before after result into

-- A call gave the first of the items that were left, or none if none was left. If it failed, the same are left.
abbrev pub GivesNext : {A E : Type 0} → Option (List A) → Option (List A) → Result (Option A) E → Type 0
GivesNext before after result = MatchResult result
    (λ given. MatchOption given ((after ≡ before) × IsAtEnd before) (λ item. before ≡ then_known (item ∷ []) after))
    (λ _. after ≡ before)

-- A write took the first n bytes of the piece, at least one. A failed write took none.
abbrev pub Takes : {E : Type 0} → Option (List ℕ) → Option (List ℕ) → Result ℕ E → List ℕ → Type 0
Takes before after result piece = MatchResult result
    (λ n. (0 < n) × (n ≤ length piece) × (after ≡ known_then before (take n piece)))
    (λ _. after ≡ before)

-- The failures so far, and one more. Each failure is noted as the number of bytes that came before it, so none is known if the bytes
-- are not.
abbrev pub failed_at : Option (List ℕ) → Option (List ℕ) → Option (List ℕ)
failed_at None failures = None
failed_at (Some bytes) failures = known_then failures (length bytes ∷ [])

-- A call that failed adds a failure, noted as the number of these bytes. Any other call adds none.
abbrev pub NotesFailure : {T E : Type 0} → Option (List ℕ) → Option (List ℕ) → Option (List ℕ) → Result T E → Type 0
NotesFailure bytes before after result = MatchResult result (λ _. after ≡ before) (λ _. after ≡ failed_at bytes before)

-- A proper prefix of `bytes`, which may be empty, was taken.
-- Row: cut_line (worked_rows/proofs/Links.antt)
pub record TakesSome (before after : Option (List ℕ)) (bytes : List ℕ) : Type 0 where
  pub count : ℕ
  pub proper : count < length bytes
  pub taken : after ≡ known_then before (take count bytes)
