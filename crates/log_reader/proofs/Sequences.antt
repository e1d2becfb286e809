-- Reading parts one after another, as a loop does.
use Rattle.std.proofs.Common.{◌≡◌, ℕ, suc, ◌-◌, ◌+◌, ◌≤◌, ◌<◌, Bool, true, false, cond, List, [], ◌∷◌, ◌++◌, Result, Ok, Err, refl, sym, ap, append_assoc, arith, append-nil}
use Rattle.log_reader.specs.{TextEnd, BadLine, Remaining, due_of, begins, refused_line, as_long_as, nothing_begins}
use Rattle.text_forms.specs.Steps.{◌>>=◌, repeat}
use Rattle.text_forms.proofs.Repeats.{with_front}
use Rattle.log_reader.proofs.Taking.{refused_not}

-- what is read of parts
abbrev Read : Type 0 → Type 0
Read A = Result (List A × Remaining) BadLine

no_front : {A : Type 0} (read : Read A) → with_front [] read ≡ read
no_front (Ok x) = refl
no_front (Err bad) = refl

-- before the first part
pub at_start : {A : Type 0} (values : List A) (count : ℕ) (read : ℕ → Read A) → values ≡ [] → with_front values (read (count - 0)) ≡ read count
at_start values count read none = let same : count - 0 ≡ count = omega arith in rw (none, same) (no_front (read count))

regroup : {A : Type 0} (front : List A) (x : A) (read : Read A) → with_front front (read >>= λ others. Ok (x ∷ others.0, others.1)) ≡ with_front (front ++ x ∷ []) read
regroup {A} front x (Ok others) = ap (λ (xs : List A). Ok (xs, others.1)) (simp append_assoc)
regroup front x (Err fault) = refl

module _ {A : Type 0} (step : ℕ → Remaining → Result (A × Remaining) BadLine) (front : List A) where
  -- ---- a fixed number of parts

  pub one_more : (count i : ℕ) (left : Remaining) (x : A) (after : Remaining) → i < count → step i left ≡ Ok (x, after) →
      with_front (front ++ x ∷ []) (repeat (count - (i + 1)) (i + 1) step after) ≡ with_front front (repeat (count - i) i step left)
  unfolding repeat
  one_more count i left x after lt h =
      let k : count - i ≡ suc (count - (i + 1)) = omega arith in
      rw (k, h) (sym (regroup front x (repeat (count - (i + 1)) (i + 1) step after)))

  pub one_bad : (count i : ℕ) (left : Remaining) (bad : BadLine) → i < count → step i left ≡ Err bad → with_front front (repeat (count - i) i step left) ≡ Err bad
  unfolding repeat
  one_bad count i left bad lt h =
      let k : count - i ≡ suc (count - (i + 1)) = omega arith in
      rw (k, h) refl

  pub all_read : (count i : ℕ) (left : Remaining) → count ≤ i → with_front front (repeat (count - i) i step left) ≡ Ok (front, left)
  unfolding repeat
  all_read count i left le =
      let k : count - i ≡ 0 = omega arith in
      rw k (ap (λ (xs : List A). Ok (xs, left)) (append-nil front))

  -- ---- as long as lines begin with a word

  pub goes_on : (word : List ℕ) (most i : ℕ) (left : Remaining) (x : A) (after : Remaining) → i < most → begins word left ≡ true → step i left ≡ Ok (x, after) →
      with_front (front ++ x ∷ []) (as_long_as word step (most - (i + 1)) (i + 1) after) ≡ with_front front (as_long_as word step (most - i) i left)
  unfolding as_long_as
  goes_on word most i left x after lt is h =
      let k : most - i ≡ suc (most - (i + 1)) = omega arith in
      rw (k, is, h) (sym (regroup front x (as_long_as word step (most - (i + 1)) (i + 1) after)))

  pub goes_wrong : (word : List ℕ) (most i : ℕ) (left : Remaining) (bad : BadLine) → i < most → begins word left ≡ true → step i left ≡ Err bad →
      with_front front (as_long_as word step (most - i) i left) ≡ Err bad
  unfolding as_long_as
  goes_wrong word most i left bad lt is h =
      let k : most - i ≡ suc (most - (i + 1)) = omega arith in
      rw (k, is, h) refl

  pub stops : (word : List ℕ) (most i : ℕ) (left : Remaining) → i < most → begins word left ≡ false → with_front front (as_long_as word step (most - i) i left) ≡ Ok (front, left)
  unfolding as_long_as
  stops word most i left lt is =
      let k : most - i ≡ suc (most - (i + 1)) = omega arith in
      rw (k, is) (ap (λ (xs : List A). Ok (xs, left)) (append-nil front))

  abbrev bad_at : (Y : Type 0) → ℕ → Result Y BadLine
  bad_at Y number = Err (record { line = number; reason = TextEnd })

  always : {X Y Z : Type 0} (read : Result X BadLine) (number : X → ℕ) (bad : BadLine) → (read >>= λ x. bad_at Y (number x)) ≡ Err bad → (read >>= λ x. bad_at Z (number x)) ≡ Err bad
  always (Ok x) number bad h = cc
  always (Err e) number bad h = cc

  full_by : (b : Bool) (left after : Remaining) → cond b (refused_line left) (Ok left) ≡ Ok after → with_front front (cond b (refused_line left) (Ok ([], left))) ≡ Ok (front, after)
  full_by true left after h = absurd (refused_not left after h)
  full_by false left after h =
      let same : left ≡ after = cc in
      rw same (ap (λ (xs : List A). Ok (xs, after)) (append-nil front))

  -- as many parts as there may be were read, and no other follows
  pub full : (word : List ℕ) (most i : ℕ) (left after : Remaining) → most ≤ i → nothing_begins word left ≡ Ok after → with_front front (as_long_as word step (most - i) i left) ≡ Ok (front, after)
  unfolding as_long_as
  full word most i left after le h =
      let k : most - i ≡ 0 = omega arith in
      rw k (full_by (begins word left) left after h)

  over_by : (b : Bool) (left : Remaining) (bad : BadLine) → cond b (refused_line left) (Ok left) ≡ Err bad → with_front front (cond b (refused_line left) (Ok ([], left))) ≡ Err bad
  over_by true left bad h = let e : refused_line {A = List A × Remaining} left ≡ Err bad = always (due_of left) (λ line. line.0.number) bad h in rw e refl
  over_by false left bad h = absurd cc

  -- another one follows
  pub one_over : (word : List ℕ) (most i : ℕ) (left : Remaining) (bad : BadLine) → most ≤ i → nothing_begins word left ≡ Err bad → with_front front (as_long_as word step (most - i) i left) ≡ Err bad
  unfolding as_long_as
  one_over word most i left bad le h =
      let k : most - i ≡ 0 = omega arith in
      rw k (over_by (begins word left) left bad h)
