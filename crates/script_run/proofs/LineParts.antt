-- The parts of a text that is cut at its line ends.
use Rattle.std.proofs.Common.{◌≡◌, ℕ, ◌+◌, Bool, true, false, cond, List, [], ◌∷◌, ◌++◌, length, refl, sym, ap, ◌∙◌, arith, inl, inr, ◌==◌, ◌⊎◌, count_by}
use Rattle.std.specs.List.{onto_first}
use Rattle.std.proofs.lemmas.List.Sums.{sum_by-append, sum_by-cons}
use Rattle.std.proofs.lemmas.List.Splits.{length-slice_split, slice_split-cons_no, slice_split-cons_yes}
use Rattle.std.proofs.lemmas.Bool.{or_parts}
use Rattle.script_run.specs.Prelude.{parts_of, has_end}
use Rattle.text_forms.proofs.BlockSteps.{cut_whole}

-- a line that has its end is a part
pub line_part : (line more : List ℕ) → has_end line ≡ false → parts_of 10 (line ++ 10 ∷ more) ≡ line ∷ parts_of 10 more
line_part [] more none = slice_split-cons_yes (λ b. b == 10) 10 more refl
line_part (byte ∷ line) more none =
    let both = or_parts (byte == 10) (has_end line) none in
    slice_split-cons_no (λ b. b == 10) byte (line ++ 10 ∷ more) both.0 ∙ ap (onto_first byte) (line_part line more both.1)

-- what has no line end is one part
pub one_part : (rest : List ℕ) → has_end rest ≡ false → parts_of 10 rest ≡ rest ∷ []
one_part [] none = refl
one_part (byte ∷ rest) none =
    let both = or_parts (byte == 10) (has_end rest) none in
    slice_split-cons_no (λ b. b == 10) byte rest both.0 ∙ ap (onto_first byte) (one_part rest both.1)

-- bytes have no line end, or begin with a line and its end
abbrev pub Splits : List ℕ → Type 0
Splits bytes = (has_end bytes ≡ false) ⊎ ((line : List ℕ) × (more : List ℕ) × (bytes ≡ line ++ 10 ∷ more) × (has_end line ≡ false))

pub first_line : (bytes : List ℕ) → Splits bytes
first_line [] = inl refl
first_line (byte ∷ bytes) = by_test (byte == 10) refl (first_line bytes)
  where
    by_test : (b : Bool) → (byte == 10) ≡ b → Splits bytes → Splits (byte ∷ bytes)
    by_test true is rest = let ten : byte ≡ 10 = grind (arith, is) in inr ([], bytes, ap (λ (b : ℕ). b ∷ bytes) ten, refl)
    by_test false is (inl none) = inl (rw is none)
    by_test false is (inr found) = inr (byte ∷ found.0, found.1, ap (λ (l : List ℕ). byte ∷ l) found.2, rw is found.3)

-- ---- the bytes of a part

-- where no byte is a line end, there is none
none_counted : (bytes : List ℕ) → count_by (λ b. b == 10) bytes ≡ 0 → has_end bytes ≡ false
none_counted [] none = refl
none_counted (byte ∷ bytes) none = by_test (byte == 10) refl (sym (sum_by-cons (λ (b : ℕ). cond (b == 10) 1 0) byte bytes) ∙ none) (none_counted bytes)
  where
    by_test : (b : Bool) → (byte == 10) ≡ b → cond (byte == 10) 1 0 + count_by (λ c. c == 10) bytes ≡ 0 → (count_by (λ c. c == 10) bytes ≡ 0 → has_end bytes ≡ false) → has_end (byte ∷ bytes) ≡ false
    by_test true is sum rest = let one : ◌≡◌ {A = ℕ} (cond (byte == 10) 1 0) 1 = rw is refl in absurd (omega (arith, one, sum))
    by_test false is sum rest = rw is (rest (omega (arith, sum)))

pub one_part_only : (bytes : List ℕ) → parts_of 10 bytes ≡ bytes ∷ [] → has_end bytes ≡ false
one_part_only bytes one = none_counted bytes (omega (arith, length-slice_split (λ b. b == 10) bytes, ap length one))

pub cut_part : (bytes part after : List ℕ) → parts_of 10 bytes ≡ part ∷ parts_of 10 after → has_end part ≡ false
cut_part bytes part after e =
    let whole = length-slice_split (λ b. b == 10) bytes in
    let rest = length-slice_split (λ b. b == 10) after in
    let both = ap (count_by (λ b. b == 10)) (cut_whole bytes part after e) ∙ sum_by-append (λ (b : ℕ). cond (b == 10) 1 0) part (10 ∷ after) in
    let own = sum_by-cons (λ (b : ℕ). cond (b == 10) 1 0) 10 after in
    none_counted part (omega (arith, whole, rest, both, own, ap length e))
