-- The block of a certificate in a log.
use Rattle.std.proofs.Common.{◌≡◌, ℕ, zero, suc, ◌+◌, Bool, true, false, cond, List, [], ◌∷◌, ◌++◌, Option, Some, None, refl, sym, ap, subst, ◌∙◌, append_assoc, ◌==◌, option_map}
use Rattle.std.proofs.lemmas.List.Concat.{flat_map-cons}
use Rattle.text_forms.specs.Lines.{NumberedLine, Remaining, with_line, block_in, block_of, text_of}
use Rattle.reading_laws.proofs.Steady.{onto, bytes_of}

-- the lines of a block, which are the same whatever follows
pub record Block (number count : ℕ) (left : Remaining) (lines : List NumberedLine) (bytes : List ℕ) (after : Remaining) : Type 0 where
  pub used : List NumberedLine
  pub split : lines ≡ used ++ after.lines
  pub rest : after ≡ record left { lines = after.lines }
  pub bytes_are : bytes ≡ text_of (bytes_of used)
  pub again : (base other : Remaining) → block_in number count base (used ++ other.lines) ≡ Some (bytes, record base { lines = other.lines })

abbrev some : {A : Type 0} → A → Option A
some x = Some x

same_some : {A : Type 0} (x y : A) → some x ≡ Some y → x ≡ y
same_some x y h = cc

longer : (number count : ℕ) (left : Remaining) (line : NumberedLine) (lines : List NumberedLine) (b : List ℕ × Remaining) → ((c : List ℕ × Remaining) → block_in (number + 1) count left lines ≡ Some c → Block (number + 1) count left lines c.0 c.1) → (line.number == number) ≡ true
    → (inner : Option (List ℕ × Remaining)) → block_in (number + 1) count left lines ≡ inner → option_map (with_line line.bytes) inner ≡ Some b → Block number (suc count) left (line ∷ lines) b.0 b.1
longer number count left line lines b each is None e k = absurd cc
longer number count left line lines b each is (Some c) e k =
    let rest = each c e in
    subst (λ (d : List ℕ × Remaining). Block number (suc count) left (line ∷ lines) d.0 d.1) (same_some (line.bytes ++ 10 ∷ c.0, c.1) b k) (record {
      used = line ∷ rest.used;
      split = ap (λ (ls : List NumberedLine). line ∷ ls) rest.split;
      rest = rest.rest;
      bytes_are = ap (λ (t : List ℕ). line.bytes ++ 10 ∷ t) rest.bytes_are ∙ sym (flat_map-cons (λ (l : List ℕ). l ++ 10 ∷ []) line.bytes (bytes_of rest.used) ∙ append_assoc line.bytes (10 ∷ []) (text_of (bytes_of rest.used)));
      again = λ base other. rw (is, rest.again base other) refl;
    })

by_number : (number count : ℕ) (left : Remaining) (line : NumberedLine) (lines : List NumberedLine) (b : List ℕ × Remaining) → ((c : List ℕ × Remaining) → block_in (number + 1) count left lines ≡ Some c → Block (number + 1) count left lines c.0 c.1)
    → (same : Bool) → (line.number == number) ≡ same → cond same (option_map (with_line line.bytes) (block_in (number + 1) count left lines)) None ≡ Some b → Block number (suc count) left (line ∷ lines) b.0 b.1
by_number number count left line lines b each true is k = longer number count left line lines b each is (block_in (number + 1) count left lines) refl k
by_number number count left line lines b each false is k = absurd cc

block_read : (count number : ℕ) (left : Remaining) (lines : List NumberedLine) (b : List ℕ × Remaining) → block_in number count left lines ≡ Some b → Block number count left lines b.0 b.1
block_read zero number left lines b h =
    subst (λ (c : List ℕ × Remaining). Block number 0 left lines c.0 c.1) (same_some ([], record left { lines = lines }) b h) (record { used = []; split = refl; rest = refl; bytes_are = refl; again = λ base other. refl })
block_read (suc count) number left [] b h = absurd cc
block_read (suc count) number left (line ∷ lines) b h = by_number number count left line lines b (λ c e. block_read count (number + 1) left lines c e) (line.number == number) refl h

-- the same from the next line on
pub record NextBlock (count : ℕ) (left : Remaining) (bytes : List ℕ) (after : Remaining) : Type 0 where
  pub used : List NumberedLine
  pub split : left.lines ≡ used ++ after.lines
  pub rest : after ≡ record left { lines = after.lines }
  pub bytes_are : bytes ≡ text_of (bytes_of used)
  pub again : (other : Remaining) → block_of count (onto used other) ≡ Some (bytes, other)

pub next_block : (count last : ℕ) (ended : Bool) (lines : List NumberedLine) (b : List ℕ × Remaining) → let left : Remaining = record { lines = lines; last = last; ended = ended } in block_of count left ≡ Some b → NextBlock count left b.0 b.1
next_block zero last ended lines b h =
    let left : Remaining = record { lines = lines; last = last; ended = ended } in
    subst (λ (c : List ℕ × Remaining). NextBlock 0 left c.0 c.1) (same_some ([], left) b h) (record { used = []; split = refl; rest = refl; bytes_are = refl; again = λ other. refl })
next_block (suc count) last ended [] b h = absurd cc
next_block (suc count) last ended (line ∷ lines) b h = by_used block.used block.split block.bytes_are block.again where
  left : Remaining
  left = record { lines = line ∷ lines; last = last; ended = ended }

  block : Block line.number (suc count) left (line ∷ lines) b.0 b.1
  block = block_read (suc count) line.number left (line ∷ lines) b h

  by_used : (used : List NumberedLine) → line ∷ lines ≡ used ++ b.1.lines → b.0 ≡ text_of (bytes_of used) → ((base other : Remaining) → block_in line.number (suc count) base (used ++ other.lines) ≡ Some (b.0, record base { lines = other.lines })) → NextBlock (suc count) left b.0 b.1
  by_used [] split bytes_are again = absurd (let none : block_in line.number (suc count) left [] ≡ Some (b.0, record left { lines = [] }) = again left (record left { lines = [] }) in cc)
  by_used (first ∷ used) split bytes_are again =
      let same : line ≡ first = cc in
      record {
        used = first ∷ used;
        split = split;
        rest = block.rest;
        bytes_are = bytes_are;
        again = λ other. ap (λ (n : ℕ). block_in n (suc count) (onto (first ∷ used) other) ((first ∷ used) ++ other.lines)) (ap (λ (l : NumberedLine). l.number) (sym same)) ∙ again (onto (first ∷ used) other) other;
      }
