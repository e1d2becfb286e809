-- What is read of bytes that were printed.
use Rattle.std.proofs.Common.{◌≡◌, ◌≢◌, ℕ, zero, suc, ◌+◌, ◌≤◌, Bool, true, false, eqb, List, [], ◌∷◌, ◌++◌, Option, Some, Result, Ok, length, refl, sym, ap, ◌∙◌, subst, append_assoc, arith, bytes_eq}
use Rattle.std.specs.Prelude.{⊤}
use Rattle.std.specs.List.{AllByRecursion, join_with_byte}
use Rattle.std.proofs.lemmas.List.Splits.{length-slice_split}
use Rattle.tac_base.proofs.Signed.{Lacks}
use Rattle.log_reader.specs.{BadLine, parts_of, words_of, Remaining, lines_from, repeat, first_is, line_by, begins, as_long_as}
use Rattle.text_forms.proofs.Joins.{parts_more}
use Rattle.log_text.proofs.Cuts.{IsWord, row, line_lacks, line_words}
use Rattle.log_reader.proofs.Taking.{bytes_of_parts, AllFrom}

-- the lines of a text whose first line has a number
abbrev pub at : ℕ → List ℕ → Remaining
at number text = lines_from false number (parts_of 10 text)

-- a line before others
abbrev pub in_front : ℕ → List ℕ → Remaining → Remaining
in_front number line others = record others { lines = record { number = number; bytes = line } ∷ others.lines }

front_of : (number : ℕ) (line : List ℕ) (parts : List (List ℕ)) → length parts ≢ 0 → lines_from false number (line ∷ parts) ≡ in_front number line (lines_from false (number + 1) parts)
front_of number line [] some = absurd (some refl)
front_of number line (next ∷ parts) some = refl

some_part : (text : List ℕ) → length (parts_of 10 text) ≢ 0
some_part text e = let count = length-slice_split (λ b. eqb b 10) text in omega (arith, count, e)

pub next_at : (number : ℕ) (line rest : List ℕ) → Lacks 10 line → at number (line ++ 10 ∷ rest) ≡ in_front number line (at (number + 1) rest)
next_at number line rest lacks = ap (lines_from false number) (parts_more 10 line rest lacks) ∙ front_of number line (parts_of 10 rest) (some_part rest)

-- a line is read by its form
pub line_given : {A : Type 0} (form : List ℕ → Option A) (number : ℕ) (line rest : List ℕ) (x : A) → Lacks 10 line → form line ≡ Some x → line_by form (at number (line ++ 10 ∷ rest)) ≡ Ok (x, at (number + 1) rest)
line_given form number line rest x lacks read = ap (line_by form) (next_at number line rest lacks) ∙ rw read refl

begins_at : (word : List ℕ) (number : ℕ) (line rest : List ℕ) (b : Bool) → Lacks 10 line → first_is word (words_of line) ≡ b → begins word (at number (line ++ 10 ∷ rest)) ≡ b
begins_at word number line rest b lacks is = ap (begins word) (next_at number line rest lacks) ∙ is

-- a line that has its line end
whole_line : (body line rest : List ℕ) → body ++ 10 ∷ [] ≡ line → line ++ rest ≡ body ++ 10 ∷ rest
whole_line body line rest e = ap (λ (t : List ℕ). t ++ rest) (sym e) ∙ append_assoc body (10 ∷ []) rest

pub whole_given : {A : Type 0} (form : List ℕ → Option A) (body line : List ℕ) (x : A) → body ++ 10 ∷ [] ≡ line → Lacks 10 body → form body ≡ Some x → (number : ℕ) (rest : List ℕ) → line_by form (at number (line ++ rest)) ≡ Ok (x, at (number + 1) rest)
whole_given form body line x ends lacks read number rest = ap (λ (t : List ℕ). line_by form (at number t)) (whole_line body line rest ends) ∙ line_given form number body rest x lacks read

-- a row of words
pub row_given : {A : Type 0} (form : List ℕ → Option A) (words : List (List ℕ)) (line : List ℕ) (x : A) → AllByRecursion IsWord words → row words ≡ line → form (join_with_byte 32 words) ≡ Some x →
    (number : ℕ) (rest : List ℕ) → line_by form (at number (line ++ rest)) ≡ Ok (x, at (number + 1) rest)
row_given form words line x are ends read number rest = whole_given form (join_with_byte 32 words) line x ends (line_lacks words are) read number rest

pub begins_with : (word body line : List ℕ) (b : Bool) → body ++ 10 ∷ [] ≡ line → Lacks 10 body → first_is word (words_of body) ≡ b → (number : ℕ) (rest : List ℕ) → begins word (at number (line ++ rest)) ≡ b
begins_with word body line b ends lacks is number rest = ap (λ (t : List ℕ). begins word (at number t)) (whole_line body line rest ends) ∙ begins_at word number body rest b lacks is

pub row_begins : (word first : List ℕ) (others : List (List ℕ)) (line : List ℕ) (b : Bool) → AllByRecursion IsWord (first ∷ others) → row (first ∷ others) ≡ line → bytes_eq first word ≡ b →
    (number : ℕ) (rest : List ℕ) → begins word (at number (line ++ rest)) ≡ b
row_begins word first others line b are ends test number rest =
    begins_with word (join_with_byte 32 (first ∷ others)) line b ends (line_lacks (first ∷ others) are) (ap (first_is word) (line_words first others are) ∙ test) number rest

-- a text whose first line does not begin with a word
abbrev pub BeginsNot : List ℕ → List ℕ → Type 0
BeginsNot word text = (number : ℕ) → begins word (at number text) ≡ false

-- a step reads the bytes of each part, if what follows is as it has to be
unfoldable pub GivesBytes : {A : Type 0} → (ℕ → Remaining → Result (A × Remaining) BadLine) → (ℕ → A → List ℕ) → (ℕ → A → Type 0) → (List ℕ → Type 0) → Type 0
GivesBytes {A} step bytes P Q = (i : ℕ) (x : A) → P i x → (number : ℕ) (rest : List ℕ) → Q rest → (m : ℕ) × (step i (at number (bytes i x ++ rest)) ≡ Ok (x, at m rest))

-- what follows is so too if a part comes before it
unfoldable pub Keeps : {A : Type 0} → (ℕ → A → List ℕ) → (ℕ → A → Type 0) → (List ℕ → Type 0) → Type 0
Keeps {A} bytes P Q = (i : ℕ) (x : A) → P i x → (rest : List ℕ) → Q (bytes i x ++ rest)

pub keeps_all : {A : Type 0} (bytes : ℕ → A → List ℕ) (P : ℕ → A → Type 0) (Q : List ℕ → Type 0) → Keeps bytes P Q → (xs : List A) (from : ℕ) → AllFrom P from xs → (rest : List ℕ) → Q rest → Q (bytes_of_parts bytes from xs ++ rest)
unfolding Keeps
keeps_all bytes P Q keeps [] from each rest q = q
keeps_all bytes P Q keeps (x ∷ xs) from each rest q =
    subst Q (sym (append_assoc (bytes from x) (bytes_of_parts bytes (from + 1) xs) rest)) (keeps from x each.0 (bytes_of_parts bytes (from + 1) xs ++ rest))

pub repeat_given : {A : Type 0} (step : ℕ → Remaining → Result (A × Remaining) BadLine) (bytes : ℕ → A → List ℕ) (P : ℕ → A → Type 0) (Q : List ℕ → Type 0) → GivesBytes step bytes P Q → Keeps bytes P Q →
    (xs : List A) (from : ℕ) → AllFrom P from xs → (number : ℕ) (rest : List ℕ) → Q rest → (m : ℕ) × (repeat (length xs) from step (at number (bytes_of_parts bytes from xs ++ rest)) ≡ Ok (xs, at m rest))
unfolding repeat GivesBytes
repeat_given step bytes P Q gives keeps [] from each number rest q = (number, refl)
repeat_given step bytes P Q gives keeps (x ∷ xs) from each number rest q =
    let after = bytes_of_parts bytes (from + 1) xs ++ rest in
    let first = gives from x each.0 number after (keeps_all bytes P Q keeps xs (from + 1) each.1 rest q) in
    let others = repeat_given step bytes P Q gives keeps xs (from + 1) each.1 first.0 rest q in
    (others.0, ap (λ (t : List ℕ). repeat (suc (length xs)) from step (at number t)) (append_assoc (bytes from x) (bytes_of_parts bytes (from + 1) xs) rest) ∙ rw (first.1, others.1) refl)

-- each part begins with a word
unfoldable pub Starts : {A : Type 0} → List ℕ → (ℕ → A → List ℕ) → (ℕ → A → Type 0) → Type 0
Starts {A} word bytes P = (i : ℕ) (x : A) → P i x → (number : ℕ) (rest : List ℕ) → begins word (at number (bytes i x ++ rest)) ≡ true

abbrev pub Any : List ℕ → Type 0
Any text = ⊤

pub as_long_given : {A : Type 0} (word : List ℕ) (step : ℕ → Remaining → Result (A × Remaining) BadLine) (bytes : ℕ → A → List ℕ) (P : ℕ → A → Type 0) → GivesBytes step bytes P Any → Starts word bytes P →
    (xs : List A) (room from : ℕ) → length xs ≤ room → AllFrom P from xs → (number : ℕ) (rest : List ℕ) → BeginsNot word rest → (m : ℕ) × (as_long_as word step room from (at number (bytes_of_parts bytes from xs ++ rest)) ≡ Ok (xs, at m rest))
unfolding as_long_as GivesBytes Starts
as_long_given word step bytes P gives starts [] zero from few each number rest stops = (number, rw (stops number) refl)
as_long_given word step bytes P gives starts [] (suc room) from few each number rest stops = (number, rw (stops number) refl)
as_long_given word step bytes P gives starts (x ∷ xs) zero from few each number rest stops = absurd (omega (arith, few))
as_long_given word step bytes P gives starts (x ∷ xs) (suc room) from few each number rest stops =
    let after = bytes_of_parts bytes (from + 1) xs ++ rest in
    let first = gives from x each.0 number after tt in
    let begun = starts from x each.0 number after in
    let others = as_long_given word step bytes P gives starts xs room (from + 1) (omega (arith, few)) each.1 first.0 rest stops in
    (others.0, ap (λ (t : List ℕ). as_long_as word step (suc room) from (at number t)) (append_assoc (bytes from x) (bytes_of_parts bytes (from + 1) xs) rest) ∙ rw (begun, first.1, others.1) refl)
