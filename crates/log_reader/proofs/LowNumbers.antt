-- The numbers of a log's lines, and of the lines of its certificates, are no greater than 67108865.
use Rattle.std.proofs.Common.{◌≡◌, ℕ, zero, suc, ◌+◌, ◌≤◌, Bool, true, false, cond, eqb, ltb, List, [], ◌∷◌, Option, Some, None, Result, Ok, Err, length, refl, subst, arith, inl, inr, ℤ, pos, codes, option_map, unsigned_abs, slice_index_or}
use Rattle.std.specs.Prelude.{⊤}
use Rattle.std.specs.List.{AllByRecursion}
use Rattle.std.proofs.lemmas.Bool.Decides.{nat_tests}
use Rattle.std.proofs.lemmas.Option.{same_Some}
use Rattle.std.proofs.lemmas.List.Sums.{count_by-le-length}
use Rattle.std.proofs.lemmas.List.Splits.{length-slice_split}
use Rattle.std.proofs.lemmas.Bool.{cases_Bool}
use Rattle.log_reader.specs.{TEXT_BYTES, Reason, TextEnd, parts_of, words_of, row, NumberedLine, Remaining, lines_from, nothing_in, nothing_left, with_line, block_in, block_of, first_number, CertFault, or_cert_fault, IsCertRefusal, Tree, split, Trees, more, Reader, forest_by, tree_in, root_in, cert_of, last_number, AreLow, IsLowFault}
use Rattle.text_forms.specs.Steps.{◌>>=◌}
use Rattle.packages.specs.Features.{values_of}
use Rattle.bound_cert.specs.declared.faults.CertFault.TheVariants as certs
use Rattle.bound_cert.specs.NodeLines.{is_leaf, leaf_columns, split_columns}

-- ---- lines

abbrev IsLow : NumberedLine → Type 0
IsLow line = line.number ≤ last_number

from_low : (number : ℕ) (parts : List (List ℕ)) → number ≤ last_number → number + length parts ≤ last_number + 1 → AreLow (lines_from false number parts)
from_low number [] low h = record { lines = tt; last = low }
from_low number (rest ∷ []) low h = record { lines = tt; last = low }
from_low number (line ∷ next ∷ parts) low h =
    let others = from_low (number + 1) (next ∷ parts) (omega arith) (omega arith) in
    record { lines = (low, others.lines); last = others.last }

-- those of a text that is not too long
pub whole_low : (text : List ℕ) → length text ≤ TEXT_BYTES → AreLow (lines_from false 1 (parts_of 10 text))
whole_low text short =
    from_low 1 (parts_of 10 text) (omega arith) (omega (arith, length-slice_split (λ b. eqb b 10) text, count_by-le-length (λ b. eqb b 10) text))

chosen_block : (b : Bool) (block : Option (List ℕ × Remaining)) (x : List ℕ × Remaining) → cond b block None ≡ Some x → block ≡ Some x
chosen_block true block x h = h
chosen_block false block x h = absurd cc

mapped_block : (line : List ℕ) (block : Option (List ℕ × Remaining)) (x : List ℕ × Remaining) → option_map (with_line line) block ≡ Some x → (y : List ℕ × Remaining) × (block ≡ Some y) × (y.1 ≡ x.1)
mapped_block line None x h = absurd cc
mapped_block line (Some y) x h = (y, refl, (let same : with_line line y ≡ x = cc in subst (λ (z : List ℕ × Remaining). y.1 ≡ z.1) same refl))

block_low_in : (number count : ℕ) (left : Remaining) (lines : List NumberedLine) (x : List ℕ × Remaining) → left.last ≤ last_number → AllByRecursion IsLow lines → block_in number count left lines ≡ Some x → AreLow x.1
block_low_in number zero left lines x last low h = subst (λ (y : List ℕ × Remaining). AreLow y.1) (same_Some ([], record left { lines = lines }) x h) (record { lines = low; last = last })
block_low_in number (suc count) left [] x last low h = absurd cc
block_low_in number (suc count) left (line ∷ lines) x last low h =
    let m = mapped_block line.bytes (block_in (number + 1) count left lines) x (chosen_block (eqb line.number number) (option_map (with_line line.bytes) (block_in (number + 1) count left lines)) x h) in
    subst AreLow m.2 (block_low_in (number + 1) count left lines m.0 last low.1 m.1)

pub block_low : (count : ℕ) (left : Remaining) (x : List ℕ × Remaining) → AreLow left → block_of count left ≡ Some x → AreLow x.1
block_low count left x low h = block_low_in (first_number left.lines) count left left.lines x low.last low.lines h

-- ---- certificates

-- what was read has a property, or the line that is refused has a low number
abbrev Outcome : {A : Type 0} → (A → Type 0) → Result A CertFault → Type 0
Outcome P (Ok x) = P x
Outcome P (Err fault) = IsLowFault fault

abbrev Leaves : (A : Type 0) → A × Remaining → Type 0
Leaves A x = AreLow x.1

-- a step leaves low numbers, or refuses a line of a low number
abbrev KeepsLow : (A : Type 0) → Reader A → Type 0
KeepsLow A step = (left : Remaining) → AreLow left → Outcome (Leaves A) (step left)

then_low : {A B : Type 0} (P : A → Type 0) (Q : B → Type 0) (read : Result A CertFault) (f : A → Result B CertFault) → Outcome P read → ((x : A) → P x → Outcome Q (f x)) → Outcome Q (read >>= f)
then_low P Q (Ok x) f h others = others x h
then_low P Q (Err fault) f h others = h

forest_low : (tree_at : Reader Tree) → KeepsLow Tree tree_at → (count : ℕ) → KeepsLow Trees (forest_by tree_at count)
forest_low tree_at keeps zero left low = low
forest_low tree_at keeps (suc count) left low =
    then_low (Leaves Tree) (Leaves Trees) (tree_at left) (λ tree. forest_by tree_at count tree.1 >>= λ trees. Ok (more tree.0 trees.0, trees.1)) (keeps left low)
    (λ tree is. then_low (Leaves Trees) (Leaves Trees) (forest_by tree_at count tree.1) (λ trees. Ok (more tree.0 trees.0, trees.1)) (forest_low tree_at keeps count tree.1 is) (λ trees are. are))

split_low : (tree_at : Reader Tree) → KeepsLow Tree tree_at → (client feature count : ℕ) (left : Remaining) → AreLow left → Outcome (Leaves Tree) (forest_by tree_at count left >>= λ trees. Ok (split client feature trees.0, trees.1))
split_low tree_at keeps client feature count left low =
    then_low (Leaves Trees) (Leaves Tree) (forest_by tree_at count left) (λ trees. Ok (split client feature trees.0, trees.1)) (forest_low tree_at keeps count left low) (λ trees are. are)

abbrev lines_at : List NumberedLine → ℕ → Bool → Remaining
lines_at lines last ended = record { lines = lines; last = last; ended = ended }

-- a node whose first word is that of a leaf
leaf_low : (level : ℕ) (line : NumberedLine) (lines : List NumberedLine) (last : ℕ) (ended : Bool) → AreLow (lines_at (line ∷ lines) last ended) → is_leaf (words_of line.bytes) ≡ true →
    (read : Result (List ℤ) Reason) → row (codes "leaf") leaf_columns line.bytes ≡ read → Outcome (Leaves Tree) (tree_in level (lines_at (line ∷ lines) last ended))
unfolding tree_in
leaf_low zero line lines last ended low is (Err reason) h = rw (is, h) low.lines.0
leaf_low zero line lines last ended low is (Ok prices) h = rw (is, h) (record { lines = low.lines.1; last = low.last })
leaf_low (suc level) line lines last ended low is (Err reason) h = rw (is, h) low.lines.0
leaf_low (suc level) line lines last ended low is (Ok prices) h = rw (is, h) (record { lines = low.lines.1; last = low.last })

-- a node whose first word is not
other_low : (level : ℕ) → ((below : ℕ) → level ≡ suc below → KeepsLow Tree (tree_in below)) → (line : NumberedLine) (lines : List NumberedLine) (last : ℕ) (ended : Bool) → AreLow (lines_at (line ∷ lines) last ended) →
    is_leaf (words_of line.bytes) ≡ false → (read : Result (List ℤ) Reason) → row (codes "split") split_columns line.bytes ≡ read → Outcome (Leaves Tree) (tree_in level (lines_at (line ∷ lines) last ended))
unfolding tree_in
other_low zero keeps line lines last ended low is (Err reason) h = rw (is, h) low.lines.0
other_low zero keeps line lines last ended low is (Ok numbers) h = rw (is, h) low.lines.0
other_low (suc level) keeps line lines last ended low is (Err reason) h = rw (is, h) low.lines.0
other_low (suc level) keeps line lines last ended low is (Ok numbers) h =
    rw (is, h) (split_low (tree_in level) (keeps level refl) (unsigned_abs (slice_index_or numbers 0 (pos 0))) (unsigned_abs (slice_index_or numbers 1 (pos 0))) (values_of (unsigned_abs (slice_index_or numbers 1 (pos 0)))) (lines_at lines last ended)
    (record { lines = low.lines.1; last = low.last }))

node_low : (level : ℕ) → ((below : ℕ) → level ≡ suc below → KeepsLow Tree (tree_in below)) → (lines : List NumberedLine) (last : ℕ) (ended : Bool) → AreLow (lines_at lines last ended) → Outcome (Leaves Tree) (tree_in level (lines_at lines last ended))
unfolding tree_in
node_low zero keeps [] last ended low = low.last
node_low (suc level) keeps [] last ended low = low.last
node_low level keeps (line ∷ lines) last ended low =
    elim (cases_Bool (is_leaf (words_of line.bytes))) [
      | inl is ↦ leaf_low level line lines last ended low is (row (codes "leaf") leaf_columns line.bytes) refl
      | inr is ↦ other_low level keeps line lines last ended low is (row (codes "split") split_columns line.bytes) refl
    ]

tree_low : (level : ℕ) → KeepsLow Tree (tree_in level)
tree_low zero left low = node_low zero (λ below is. absurd (omega arith)) left.lines left.last left.ended low
tree_low (suc level) left low =
    node_low (suc level) (λ below is. let same : level ≡ below = omega arith in subst (λ (n : ℕ). KeepsLow Tree (tree_in n)) same (tree_low level)) left.lines left.last left.ended low

nothing_low : (left : Remaining) (lines : List NumberedLine) → left.last ≤ last_number → AllByRecursion IsLow lines → Outcome (λ (x : Unit {0}). ⊤) (or_cert_fault (nothing_in left lines))
nothing_low left [] last low = ended_low left.ended left.last last
  where
    ended_low : (b : Bool) (number : ℕ) → number ≤ last_number → Outcome (λ (x : Unit {0}). ⊤) (or_cert_fault (cond b (Ok tt) (Err (record { line = number; reason = TextEnd }))))
    ended_low true number is = tt
    ended_low false number is = is
nothing_low left (line ∷ lines) last low = low.0

root_low : (left : Remaining) → AreLow left → Outcome (λ (tree : Tree). ⊤) (root_in left)
unfolding root_in
root_low left low =
    then_low (Leaves Tree) (λ (tree : Tree). ⊤) (tree_in 32 left) (λ tree. or_cert_fault (nothing_left tree.1) >>= λ done. Ok tree.0) (tree_low 32 left low)
    (λ tree is. then_low (λ (x : Unit {0}). ⊤) (λ (t : Tree). ⊤) (or_cert_fault (nothing_left tree.1)) (λ done. Ok tree.0) (nothing_low tree.1 tree.1.lines is.last is.lines) (λ done _. tt))

text_low : (text : List ℕ) (long : Bool) → (long ≡ false → length text ≤ TEXT_BYTES) → Outcome (λ (tree : Tree). ⊤) (cond long (Err certs.TooLong) (root_in (lines_from false 1 (parts_of 10 text))))
text_low text true short = tt
text_low text false short = root_low (lines_from false 1 (parts_of 10 text)) (whole_low text (short refl))

-- the line that a certificate is refused at has a low number
pub cert_low : (text : List ℕ) (fault : CertFault) → IsCertRefusal fault (cert_of text) → IsLowFault fault
unfolding cert_of
cert_low text (certs.Line line reason) h =
    subst (λ (read : Result Tree CertFault). Outcome (λ (tree : Tree). ⊤) read) h (text_low text (ltb TEXT_BYTES (length text)) (λ short. grind (arith, nat_tests)))
cert_low text certs.TooLong h = tt
cert_low text certs.Memory h = tt
