-- Taking line after line off a text.
use Rattle.std.proofs.Common.{◌≡◌, ℕ, zero, suc, ◌+◌, ◌-◌, ◌<◌, ◌≤◌, Bool, true, false, eqb, List, [], ◌∷◌, ◌++◌, Option, Some, None, length, take, refl, sym, ap, ◌∙◌, append_assoc, arith, ◌&&◌, option_map, eq-eqb, eqb-true, length-append, append-nil}
use Rattle.std.specs.List.{join_with_byte}
use Rattle.std.proofs.Math.Seq.{take-append_seam}
use Rattle.std.proofs.lemmas.List.Splits.{join_with_byte-slice_split}
use Rattle.text_forms.specs.{parts_of, NumberedLine, Remaining, is_comment, lines_from, with_line, block_in}
use Rattle.text_forms.specs.Blocks.{block_at}
use Rattle.text_forms.proofs.Stepping.{has_part, chosen, one_line}

-- a block with bytes that stand before it
abbrev pub behind : List ℕ → Option (List ℕ × Remaining) → Option (List ℕ × Remaining)
behind front block = option_map (λ b. (front ++ b.0, b.1)) block

behind_behind : (front more : List ℕ) (block : Option (List ℕ × Remaining)) → behind front (behind more block) ≡ behind (front ++ more) block
behind_behind front more None = refl
behind_behind front more (Some b) = ap (λ (bytes : List ℕ). Some (bytes, b.1)) (sym (append_assoc front more b.0))

with_end : (line : List ℕ) (block : Option (List ℕ × Remaining)) → option_map (with_line line) block ≡ behind (line ++ 10 ∷ []) block
with_end line None = refl
with_end line (Some b) = ap (λ (bytes : List ℕ). Some (bytes, b.1)) (sym (append_assoc line (10 ∷ []) b.0))

-- a block is the same whatever lines are said to come before
same_block : (number count : ℕ) (left : Remaining) (others lines : List NumberedLine) → block_in number count (record left { lines = others }) lines ≡ block_in number count left lines
same_block number zero left others lines = refl
same_block number (suc count) left others [] = refl
same_block number (suc count) left others (line ∷ lines) = rw (same_block (number + 1) count left others lines) refl

-- ---- the numbers of lines

-- the first line has this number or a later one
IsFrom : ℕ → List NumberedLine → Type 0
IsFrom number [] = Unit {0}
IsFrom number (line ∷ lines) = number ≤ line.number

from_before : (number : ℕ) (lines : List NumberedLine) → IsFrom (number + 1) lines → IsFrom number lines
unfolding IsFrom
from_before number [] h = tt
from_before number (line ∷ lines) h = omega (arith, h)

from_chosen : (skipped : Bool) (number : ℕ) (line : List ℕ) (others : Remaining) → IsFrom (number + 1) others.lines → IsFrom number (chosen skipped number line others).lines
unfolding IsFrom
from_chosen true number line others h = from_before number others.lines h
from_chosen false number line others h = omega arith

are_from : (skips : Bool) (number : ℕ) (parts : List (List ℕ)) → IsFrom number (lines_from skips number parts).lines
unfolding IsFrom
are_from skips number [] = tt
are_from skips number (rest ∷ []) = tt
are_from skips number (line ∷ next ∷ parts) = from_chosen (skips && is_comment line) number line (lines_from skips (number + 1) (next ∷ parts)) (are_from skips (number + 1) (next ∷ parts))

other_number : (m n : ℕ) → n + 1 ≤ m → eqb m n ≡ false
other_number m n h = grind (arith, h, eqb-true m n)

none_later : (number count : ℕ) (left : Remaining) (lines : List NumberedLine) → IsFrom (number + 1) lines → block_in number (suc count) left lines ≡ None
unfolding IsFrom
none_later number count left [] h = refl
none_later number count left (line ∷ lines) h = rw (other_number line.number number h) refl

-- ---- one line of a block

abbrev of_lines : ℕ → ℕ → Remaining → Option (List ℕ × Remaining)
of_lines number count left = block_in number count left left.lines

pub no_line : (skips : Bool) (number count : ℕ) (rest : List ℕ) → parts_of 10 rest ≡ rest ∷ [] → block_at skips number (suc count) rest ≡ None
no_line skips number count rest whole = ap (λ (parts : List (List ℕ)). of_lines number (suc count) (lines_from skips number parts)) whole

pub left_out : (skips : Bool) (number count : ℕ) (rest line after : List ℕ) → parts_of 10 rest ≡ line ∷ parts_of 10 after → true ≡ (skips && is_comment line) → block_at skips number (suc count) rest ≡ None
left_out skips number count rest line after cut test =
    ap (of_lines number (suc count)) (one_line skips number rest line after true cut test)
    ∙ none_later number count (lines_from skips (number + 1) (parts_of 10 after)) (lines_from skips (number + 1) (parts_of 10 after)).lines (are_from skips (number + 1) (parts_of 10 after))

pub one_taken : (skips : Bool) (number count : ℕ) (rest line after : List ℕ) → parts_of 10 rest ≡ line ∷ parts_of 10 after → false ≡ (skips && is_comment line) → block_at skips number (suc count) rest ≡ behind (line ++ 10 ∷ []) (block_at skips (number + 1) count after)
one_taken skips number count rest line after cut test =
    let others = lines_from skips (number + 1) (parts_of 10 after) in
    let lines = record { number = number; bytes = line } ∷ others.lines in
    let is : eqb number number ≡ true = eq-eqb number number refl in
    ap (of_lines number (suc count)) (one_line skips number rest line after false cut test)
    ∙ rw (is, same_block (number + 1) count others lines others.lines) (with_end line (block_in (number + 1) count others others.lines))

-- ---- several lines of a block

-- some lines were taken off a text, and this many are due
pub record AreTaken (skips : Bool) (text : List ℕ) (count : ℕ) (rest : List ℕ) (due : ℕ) : Type 0 where
  pub front : List ℕ
  pub whole : text ≡ front ++ rest
  pub few : due ≤ count
  pub long : count ≤ due + length front
  pub same : (number : ℕ) → block_at skips number count text ≡ behind front (block_at skips (number + (count - due)) due rest)

behind_nothing : (block : Option (List ℕ × Remaining)) → block ≡ behind [] block
behind_nothing None = refl
behind_nothing (Some b) = refl

pub none_taken : (skips : Bool) (text : List ℕ) (count : ℕ) → AreTaken skips text count text count
none_taken skips text count = record {
  front = [];
  whole = refl;
  few = omega arith;
  long = omega arith;
  same = λ number. let e : number + (count - count) ≡ number = omega arith in rw e (behind_nothing (block_at skips number count text));
}

pub cut_whole : (rest line after : List ℕ) → parts_of 10 rest ≡ line ∷ parts_of 10 after → rest ≡ line ++ 10 ∷ after
cut_whole rest line after cut =
    let h = has_part 10 after in
    let joined : join_with_byte 10 (line ∷ parts_of 10 after) ≡ line ++ 10 ∷ join_with_byte 10 (parts_of 10 after) = rw h.2 refl in
    sym (join_with_byte-slice_split 10 rest) ∙ ap (join_with_byte 10) cut ∙ joined ∙ ap (λ (t : List ℕ). line ++ 10 ∷ t) (join_with_byte-slice_split 10 after)

one_due : (due : ℕ) → 0 < due → due ≡ suc (due - 1)
one_due due some = omega (arith, some)

pub more_taken : (skips : Bool) (text : List ℕ) (count : ℕ) (rest : List ℕ) (due : ℕ) (line after : List ℕ) → AreTaken skips text count rest due → 0 < due → parts_of 10 rest ≡ line ∷ parts_of 10 after → false ≡ (skips && is_comment line) → AreTaken skips text count after (due - 1)
more_taken skips text count rest due line after taken some cut test =
    let few = taken.few in
    let long = taken.long in
    let next : (number : ℕ) → (number + (count - due)) + 1 ≡ number + (count - (due - 1)) = λ number. omega (arith, some, few) in
    record {
      front = taken.front ++ (line ++ 10 ∷ []);
      whole = taken.whole ∙ ap (λ (t : List ℕ). taken.front ++ t) (cut_whole rest line after cut ∙ sym (append_assoc line (10 ∷ []) after)) ∙ sym (append_assoc taken.front (line ++ 10 ∷ []) after);
      few = omega (arith, few);
      long = omega (arith, some, long, length-append taken.front (line ++ 10 ∷ []), length-append line (10 ∷ []));
      same = λ number.
          taken.same number
          ∙ ap (λ (d : ℕ). behind taken.front (block_at skips (number + (count - due)) d rest)) (one_due due some)
          ∙ ap (behind taken.front) (one_taken skips (number + (count - due)) (due - 1) rest line after cut test)
          ∙ behind_behind taken.front (line ++ 10 ∷ []) (block_at skips ((number + (count - due)) + 1) (due - 1) after)
          ∙ ap (λ (n : ℕ). behind (taken.front ++ (line ++ 10 ∷ [])) (block_at skips n (due - 1) after)) (next number);
    }

pub nothing_taken : (skips : Bool) (text : List ℕ) (count : ℕ) (rest : List ℕ) (due : ℕ) → AreTaken skips text count rest due → 0 < due → ((number : ℕ) → block_at skips number (suc (due - 1)) rest ≡ None) → (number : ℕ) → block_at skips number count text ≡ None
nothing_taken skips text count rest due taken some none number =
    taken.same number
    ∙ ap (λ (d : ℕ). behind taken.front (block_at skips (number + (count - due)) d rest)) (one_due due some)
    ∙ ap (behind taken.front) (none (number + (count - due)))

pub all_taken : (skips : Bool) (text : List ℕ) (count : ℕ) (rest : List ℕ) (due : ℕ) → AreTaken skips text count rest due → due ≤ 0 → (number : ℕ) → block_at skips number count text ≡ Some (take (length text - length rest) text, lines_from skips (number + count) (parts_of 10 rest))
all_taken skips text count rest due taken done number =
    let e : due ≡ 0 = omega (arith, done) in
    let len = length-append taken.front rest in
    let whole = taken.whole in
    let size : length text - length rest ≡ length taken.front = let l = ap length whole in omega (arith, len, l) in
    let front : take (length text - length rest) text ≡ taken.front = ap (λ (n : ℕ). take n text) size ∙ ap (take (length taken.front)) whole ∙ take-append_seam taken.front rest in
    let n : number + (count - due) ≡ number + count = omega (arith, e) in
    taken.same number
    ∙ ap (λ (d : ℕ). behind taken.front (block_at skips (number + (count - due)) d rest)) e
    ∙ ap (λ (m : ℕ). behind taken.front (block_at skips m 0 rest)) n
    ∙ ap (λ (bytes : List ℕ). Some (bytes, lines_from skips (number + count) (parts_of 10 rest))) (append-nil taken.front ∙ sym front)

pub is_shorter : (skips : Bool) (text : List ℕ) (count : ℕ) (rest : List ℕ) (due : ℕ) → AreTaken skips text count rest due → count + length rest ≤ due + length text
is_shorter skips text count rest due taken =
    let whole = ap length taken.whole in
    let long = taken.long in
    omega (arith, long, whole, length-append taken.front rest)
