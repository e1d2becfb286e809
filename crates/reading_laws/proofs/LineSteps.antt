-- Steps that read a line by its form, and a number of parts one after another.
use Rattle.std.proofs.Common.{◌≡◌, ℕ, zero, suc, ◌+◌, ◌<◌, ◌≤◌, ◌⊎◌, inl, inr, Bool, true, List, [], ◌∷◌, Result, Ok, Err, refl, sym, ◌∙◌, arith}
use Rattle.reading_laws.specs.Prelude.{Reason, TextEnd, BadLine, NumberedLine, Remaining, nothing_left, ◌>>=◌, read_by, repeat}
use Rattle.text_forms.proofs.PrintedLines.{IsLine}
use Rattle.reading_laws.proofs.Steady.{Step, onto, IsPlain, Steady, ReadsLine, steady_line, steady_then, steady_done, Closes, closes_end}

-- a bad line is at its number
abbrev pub IsBadAt : BadLine → ℕ → Type 0
IsBadAt bad n = bad.line ≡ n

pub one_place : (bad : BadLine) (m n : ℕ) → IsBadAt bad m → IsBadAt bad n → m ≡ n
one_place bad m n a b = sym a ∙ b

-- the bad line of a refusal
pub record BadLineOf {A : Type 0} (r : Result A BadLine) (line : ℕ) : Type 0 where
  pub bad : BadLine
  pub is : r ≡ Err bad
  pub at : bad.line ≡ line

-- a line that is printed is plain
pub plain : (most : ℕ) (line : List ℕ) → IsLine most line → IsPlain line
plain most line is = record { lacks = is.lacks; kept = is.kept }

module _ (is_calm : List ℕ → Bool) (In : Remaining → BadLine → List (List ℕ) → Type 0) where
  abbrev pub GoesOn : {A : Type 0} → Step A BadLine → Type 0
  GoesOn step = Steady IsBadAt is_calm In step

  -- a line by its form, of which one is known
  pub line_reads : {A : Type 0} (form : List ℕ → Result A Reason) (text : List ℕ) (value : A) → IsPlain text → is_calm text ≡ true → form text ≡ Ok value → ReadsLine IsBadAt is_calm In (λ left. read_by form left)
  line_reads {A} form text value plain calm read = record {
    none = λ last ended. (record { line = last; reason = TextEnd }, refl, refl);
    some = λ line. by_form line (form line.bytes) refl;
    text = text;
    value = value;
    plain = plain;
    calm = calm;
    example = λ number other. rw read refl;
  } where
    by_form : (line : NumberedLine) (r : Result A Reason) → form line.bytes ≡ r
        → ((value : A) × ((other : Remaining) → read_by form (onto (line ∷ []) other) ≡ Ok (value, other))) ⊎ ((fault : BadLine) × IsBadAt fault line.number × ((other : Remaining) → read_by form (onto (line ∷ []) other) ≡ Err fault))
    by_form line (Ok value) e = inl (value, λ other. rw e refl)
    by_form line (Err reason) e = inr (record { line = line.number; reason = reason }, refl, λ other. rw e refl)

  pub line_goes_on : {A : Type 0} (form : List ℕ → Result A Reason) (text : List ℕ) (value : A) → IsPlain text → is_calm text ≡ true → form text ≡ Ok value → GoesOn (λ left. read_by form left)
  line_goes_on form text value plain calm read = steady_line IsBadAt is_calm In (λ left. read_by form left) (line_reads form text value plain calm read)

  -- so many parts, of which each goes on
  pub parts_go_on : {A : Type 0} (step : ℕ → Step A BadLine) (most : ℕ) → ((i : ℕ) → i < most → GoesOn (step i)) → (count from : ℕ) → from + count ≤ most → GoesOn (repeat count from step)
  unfolding repeat
  parts_go_on step most each zero from few = steady_done IsBadAt is_calm In []
  parts_go_on step most each (suc count) from few =
      steady_then IsBadAt is_calm In (step from) (λ first left. repeat count (from + 1) step left >>= λ others. Ok (first ∷ others.0, others.1)) (each from (omega (arith, few)))
      (λ first. steady_then IsBadAt is_calm In (repeat count (from + 1) step) (λ others left. Ok (first ∷ others, left)) (parts_go_on step most each count (from + 1) (omega (arith, few))) (λ others. steady_done IsBadAt is_calm In (first ∷ others)))

  -- the end of a text
  pub text_ends : {X : Type 0} (x : X) → Closes IsBadAt is_calm In (λ left. nothing_left left >>= λ done. Ok x)
  text_ends x = closes_end IsBadAt is_calm In (λ left. nothing_left left >>= λ done. Ok x) (record {
    value = x;
    done = λ last. refl;
    cut = λ last. (record { line = last; reason = TextEnd }, refl, refl);
    some = λ line. (record { line = line.number; reason = TextEnd }, refl, λ other. refl);
  })
