-- Cutting a list at its first separator.
use Rattle.std.proofs.Common.{◌≡◌, ℕ, suc, ◌+◌, ◌≤◌, ◌-◌, Bool, true, false, cond, not, ltb, List, [], ◌∷◌, Some, None, length, take, drop, refl, subst, arith, ◌==◌, codes, position, ltb-true, ltb-false}
use Rattle.std.specs.List.{slice_split, position_or_len}
use Rattle.std.proofs.lemmas.Option.{cond_some}
use Rattle.std.proofs.lemmas.List.{take_rest}
use Rattle.std.proofs.lemmas.List.Splits.{slice_split_first}
use Rattle.text_forms.specs.Words.{parts_of, words_of}

not_chosen : (b : Bool) (m : ℕ) → cond b (Some m) None ≡ None → b ≡ false
not_chosen true m h = absurd cc
not_chosen false m h = refl

split_found : (p : ℕ → Bool) (xs : List ℕ) (i : ℕ) → position p xs ≡ Some i → slice_split p xs ≡ take i xs ∷ slice_split p (drop (i + 1) xs)
split_found p xs i h =
    let c = cond_some (ltb (position_or_len p xs) (length xs)) (position_or_len p xs) i h in
    subst (λ (k : ℕ). slice_split p xs ≡ take k xs ∷ slice_split p (drop (k + 1) xs)) c.1 (slice_split_first p xs 0 (ltb-true _ _ c.0))

-- where the first passes no test, and no other does
no_part_after : (p : ℕ → Bool) (x : ℕ) (xs : List ℕ) (b : Bool) → p x ≡ b → length (x ∷ xs) ≤ position_or_len p (x ∷ xs) → (length xs ≤ position_or_len p xs → slice_split p xs ≡ xs ∷ []) → slice_split p (x ∷ xs) ≡ (x ∷ xs) ∷ []
no_part_after p x xs true e h more = absurd (let le : suc (length xs) ≤ cond (not (p x)) (1 + position_or_len p xs) 0 = h in let le0 = rw e at le in omega (arith, le0))
no_part_after p x xs false e h more =
    let le : suc (length xs) ≤ cond (not (p x)) (1 + position_or_len p xs) 0 = h in
    let le1 = rw e at le in
    rw (e, more (omega (arith, le1))) refl

no_part : (p : ℕ → Bool) (xs : List ℕ) → length xs ≤ position_or_len p xs → slice_split p xs ≡ xs ∷ []
no_part p [] h = refl
no_part p (x ∷ xs) h = no_part_after p x xs (p x) refl h (no_part p xs)

pub cut_at : (separator : ℕ) (bytes : List ℕ) (i : ℕ) → position (λ b. b == separator) bytes ≡ Some i → parts_of separator bytes ≡ take i bytes ∷ parts_of separator (take (length bytes - (i + 1)) (drop (i + 1) bytes))
cut_at separator bytes i h = rw take_rest (split_found (λ b. b == separator) bytes i h)

pub uncut : (separator : ℕ) (bytes : List ℕ) → position (λ b. b == separator) bytes ≡ None → parts_of separator bytes ≡ bytes ∷ []
uncut separator bytes h = no_part (λ b. b == separator) bytes (ltb-false _ _ (not_chosen (ltb (position_or_len (λ b. b == separator) bytes) (length bytes)) (position_or_len (λ b. b == separator) bytes) h))

-- two spaces have an empty word between them, and so has a space at the end after it
spaces : words_of (codes "a  bc ") ≡ codes "a" ∷ [] ∷ codes "bc" ∷ [] ∷ []
spaces = refl

no_byte : words_of [] ≡ [] ∷ []
no_byte = refl
