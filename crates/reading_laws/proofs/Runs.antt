-- Parts that are read as long as the next line begins with a word, and readers of which only the first line is looked at before.
use Rattle.std.proofs.Common.{◌≡◌, ℕ, zero, suc, ◌+◌, ◌⊎◌, inl, inr, Bool, true, false, List, [], ◌∷◌, ◌++◌, Option, Some, None, Result, Ok, Err, refl, sym, ap, subst, ◌∙◌}
use Rattle.reading_laws.specs.Prelude.{TextEnd, Spelling, BadLine, NumberedLine, Remaining, words_of, ◌>>=◌, first_is, line_by, begins_in, begins, refused_line, as_long_as}
use Rattle.reading_laws.proofs.Steady.{Reader, Step, onto, bytes_of, ending, any_line, IsCalm, Follows, Completes, Outcome, Steady, AtLine, AtEnd, Within, ReadsLine, Ends, OutcomeAtEnd, Closes, no_lines}
use Rattle.reading_laws.proofs.LineSteps.{IsBadAt}

-- ---- whether one more part is read

module _ {A : Type 0} (word : List ℕ) (step : ℕ → Step A BadLine) where
  pub stops : (room from : ℕ) (left : Remaining) → begins word left ≡ false → as_long_as word step room from left ≡ Ok ([], left)
  unfolding as_long_as
  stops zero from left h = rw h refl
  stops (suc room) from left h = rw h refl

  pub full : (from : ℕ) (left : Remaining) → begins word left ≡ true → as_long_as word step 0 from left ≡ refused_line left
  unfolding as_long_as
  full from left h = rw h refl

  pub goes : (room from : ℕ) (left : Remaining) → begins word left ≡ true → as_long_as word step (suc room) from left ≡ (step from left >>= λ first. as_long_as word step room (from + 1) first.1 >>= λ others. Ok (first.0 ∷ others.0, others.1))
  unfolding as_long_as
  goes room from left h = rw h refl

module _ {A : Type 0} (is_calm : List ℕ → Bool) (In : Remaining → BadLine → List (List ℕ) → Type 0) (word : List ℕ) (quiet : (line : List ℕ) → is_calm line ≡ true → first_is word (words_of line) ≡ false) (form : ℕ → List ℕ → Option A) where
  abbrev part : ℕ → Step A BadLine
  part i left = line_by (form i) left

  abbrev run : ℕ → ℕ → Step (List A) BadLine
  run room from = as_long_as word part room from

  -- ---- where the parts end

  calm_stops : (lines : List NumberedLine) → IsCalm IsBadAt is_calm In (bytes_of lines) → begins_in word lines ≡ false
  calm_stops [] h = refl
  calm_stops (line ∷ lines) h = quiet line.bytes h

  same_stops : (line other : NumberedLine) → first_is word (words_of other.bytes) ≡ false → (line ≡ other) ⊎ (is_calm line.bytes ≡ true) → first_is word (words_of line.bytes) ≡ false
  same_stops line other h (inl same) = ap (λ (l : NumberedLine). first_is word (words_of l.bytes)) same ∙ h
  same_stops line other h (inr calm) = quiet line.bytes calm

  follows_stops : (old new : List NumberedLine) → begins_in word old ≡ false → Follows IsBadAt is_calm In old new → begins_in word new ≡ false
  follows_stops old [] h f = refl
  follows_stops [] (line ∷ lines) h f = quiet line.bytes f
  follows_stops (other ∷ others) (line ∷ lines) h f = same_stops line other h f

  run_start : (room from : ℕ) → Completes IsBadAt is_calm In (run room from) [] []
  run_start room from = record {
    value = [];
    plain = tt;
    calm = tt;
    reads = λ lines h other calm. ap (λ (ls : List NumberedLine). run room from (onto ls other)) (no_lines IsBadAt is_calm In lines h) ∙ stops word part room from other (calm_stops other.lines calm);
  }

  run_stopped : (room from : ℕ) (left : Remaining) → begins word left ≡ false → Outcome IsBadAt is_calm In (run room from) left (run room from left)
  run_stopped room from left h = subst (Outcome IsBadAt is_calm In (run room from) left) (sym (stops word part room from left h)) (record { used = []; split = refl; rest = refl; again = λ other follows. stops word part room from other (follows_stops left.lines other.lines h follows) })

  -- ---- one part more

  none_more : (from : ℕ) (line : NumberedLine) (other : Remaining) → first_is word (words_of line.bytes) ≡ true → run 0 from (onto (line ∷ []) other) ≡ Err (record { line = line.number; reason = TextEnd })
  none_more from line other begun = full word part from (onto (line ∷ []) other) begun

  no_part : (room from : ℕ) (line : NumberedLine) (other : Remaining) → first_is word (words_of line.bytes) ≡ true → form from line.bytes ≡ None → run (suc room) from (onto (line ∷ []) other) ≡ Err (record { line = line.number; reason = Spelling })
  no_part room from line other begun bad = goes word part room from (onto (line ∷ []) other) begun ∙ rw bad refl

  one_more : (room from : ℕ) (line : NumberedLine) (x : A) (other : Remaining) → first_is word (words_of line.bytes) ≡ true → form from line.bytes ≡ Some x → run (suc room) from (onto (line ∷ []) other) ≡ (run room (from + 1) other >>= λ others. Ok (x ∷ others.0, others.1))
  one_more room from line x other begun good = goes word part room from (onto (line ∷ []) other) begun ∙ rw good refl

  refused_here : (room from : ℕ) (left : Remaining) (line : NumberedLine) (lines : List NumberedLine) (bad : BadLine) → left.lines ≡ line ∷ lines → bad.line ≡ line.number → ((other : Remaining) → run room from (onto (line ∷ []) other) ≡ Err bad) → Outcome IsBadAt is_calm In (run room from) left (Err bad)
  refused_here room from left line lines bad is at again = record { front = []; more = []; goes = run_start room from; place = inl (record { line = line; lines = lines; split = is; at = at; again = again }) }

  module _ (room from : ℕ) (line : NumberedLine) (x : A) (after : Remaining) (begun : first_is word (words_of line.bytes) ≡ true) (good : form from line.bytes ≡ Some x) where
    with_rest : (other : Remaining) (r : Result (List A × Remaining) BadLine) → run room (from + 1) other ≡ r → run (suc room) from (onto (line ∷ []) other) ≡ (r >>= λ others. Ok (x ∷ others.0, others.1))
    with_rest other r h = one_more room from line x other begun good ∙ ap (λ (s : Result (List A × Remaining) BadLine). s >>= λ others. Ok (x ∷ others.0, others.1)) h

    run_longer : (r : Result (List A × Remaining) BadLine) → Outcome IsBadAt is_calm In (run room (from + 1)) after r → Outcome IsBadAt is_calm In (run (suc room) from) (onto (line ∷ []) after) (r >>= λ others. Ok (x ∷ others.0, others.1))
    run_longer (Ok xs) o = record {
      used = line ∷ o.used;
      split = ap (λ (ls : List NumberedLine). line ∷ ls) o.split;
      rest = o.rest;
      again = λ other follows. with_rest (onto o.used other) (Ok (xs.0, other)) (o.again other follows);
    }
    run_longer (Err fault) o =
        let whole = run (suc room) from in
        let left = onto (line ∷ []) after in
        record {
          front = line ∷ o.front;
          more = o.more;
          goes = record { value = x ∷ o.goes.value; plain = o.goes.plain; calm = tt; reads = λ lines h other calm. with_rest (onto (o.front ++ lines) other) (Ok (o.goes.value, other)) (o.goes.reads lines h other calm) };
          place = elim o.place as (λ _. AtLine IsBadAt is_calm In whole (line ∷ o.front) left fault ⊎ AtEnd IsBadAt is_calm In (line ∷ o.front) left fault ⊎ Within IsBadAt is_calm In (line ∷ o.front) o.more left fault) [
            | inl a ↦ inl (record { line = a.line; lines = a.lines; split = ap (λ (ls : List NumberedLine). line ∷ ls) a.split; at = a.at; again = λ other. with_rest (onto o.front (record other { lines = a.line ∷ other.lines })) (Err fault) (a.again other) })
            | inr p ↦ elim p as (λ _. AtLine IsBadAt is_calm In whole (line ∷ o.front) left fault ⊎ AtEnd IsBadAt is_calm In (line ∷ o.front) left fault ⊎ Within IsBadAt is_calm In (line ∷ o.front) o.more left fault) [
              | inl a ↦ inr (inl (record { whole = ap (λ (ls : List NumberedLine). line ∷ ls) a.whole; at = a.at }))
              | inr w ↦ inr (inr (record { lines = w.lines; split = ap (λ (ls : List NumberedLine). line ∷ ls) w.split; start = w.start; others = w.others; more_is = w.more_is; refused = w.refused }))
            ]
          ];
        }

  -- ---- all of them

  abbrev Whole : (room from : ℕ) (left : Remaining) → Type 0
  Whole room from left = Outcome IsBadAt is_calm In (run room from) left (run room from left)

  at_none : (from : ℕ) (line : NumberedLine) (after : Remaining) (b : Bool) → first_is word (words_of line.bytes) ≡ b → Whole 0 from (onto (line ∷ []) after)
  at_none from line after false h = run_stopped 0 from (onto (line ∷ []) after) h
  at_none from line after true h =
      subst (Outcome IsBadAt is_calm In (run 0 from) (onto (line ∷ []) after)) (sym (none_more from line after h))
      (refused_here 0 from (onto (line ∷ []) after) line after.lines (record { line = line.number; reason = TextEnd }) refl refl (λ other. none_more from line other h))

  at_part : (room from : ℕ) (line : NumberedLine) (after : Remaining) → Whole room (from + 1) after → first_is word (words_of line.bytes) ≡ true → (said : Option A) → form from line.bytes ≡ said → Whole (suc room) from (onto (line ∷ []) after)
  at_part room from line after rest begun None said =
      subst (Outcome IsBadAt is_calm In (run (suc room) from) (onto (line ∷ []) after)) (sym (no_part room from line after begun said))
      (refused_here (suc room) from (onto (line ∷ []) after) line after.lines (record { line = line.number; reason = Spelling }) refl refl (λ other. no_part room from line other begun said))
  at_part room from line after rest begun (Some x) said =
      subst (Outcome IsBadAt is_calm In (run (suc room) from) (onto (line ∷ []) after)) (sym (one_more room from line x after begun said)) (run_longer room from line x after begun said (run room (from + 1) after) rest)

  at_some : (room from : ℕ) (line : NumberedLine) (after : Remaining) → Whole room (from + 1) after → (b : Bool) → first_is word (words_of line.bytes) ≡ b → Whole (suc room) from (onto (line ∷ []) after)
  at_some room from line after rest false h = run_stopped (suc room) from (onto (line ∷ []) after) h
  at_some room from line after rest true h = at_part room from line after rest h (form from line.bytes) refl

  run_outcome : (room from last : ℕ) (ended : Bool) (lines : List NumberedLine) → Whole room from (record { lines = lines; last = last; ended = ended })
  run_outcome room from last ended [] = run_stopped room from (record { lines = []; last = last; ended = ended }) refl
  run_outcome zero from last ended (line ∷ lines) = at_none from line (record { lines = lines; last = last; ended = ended }) (first_is word (words_of line.bytes)) refl
  run_outcome (suc room) from last ended (line ∷ lines) =
      at_some room from line (record { lines = lines; last = last; ended = ended }) (run_outcome room (from + 1) last ended lines) (first_is word (words_of line.bytes)) refl

  pub run_goes_on : (room from : ℕ) → Steady IsBadAt is_calm In (run room from)
  run_goes_on room from = record { first = []; start = run_start room from; outcome = λ left. run_outcome room from left.last left.ended left.lines }

-- ---- a line, and then a reader that looks at no line before it reads it

module _ {A X : Type 0} (is_calm : List ℕ → Bool) (In : Remaining → BadLine → List (List ℕ) → Type 0) (step : Step A BadLine) (next : A → Reader X BadLine) (r : ReadsLine IsBadAt is_calm In step) (each : (a : A) → Closes IsBadAt any_line In (next a)) where
  abbrev both : Reader X BadLine
  both left = step left >>= λ x. next x.0 x.1

  abbrev more : List (List ℕ)
  more = r.text ∷ (each r.value).first

  one_line_first : (lines : List NumberedLine) → bytes_of lines ≡ more → (number : ℕ) × (rest : List NumberedLine) × (lines ≡ record { number = number; bytes = r.text } ∷ rest) × (bytes_of rest ≡ (each r.value).first)
  one_line_first [] h = absurd cc
  one_line_first (line ∷ lines) h = (line.number, lines, let same : line.bytes ≡ r.text = cc in ap (λ (b : List ℕ). record { number = line.number; bytes = b } ∷ lines) same, cc)

  starts : Ends IsBadAt is_calm In both [] more
  starts = record {
    value = (each r.value).start.value;
    plain = (r.plain, (each r.value).start.plain);
    calm = r.calm;
    reads = λ lines h last.
        let one = one_line_first lines h in
        ap (λ (ls : List NumberedLine). both (onto ls (ending last))) one.2 ∙ ap (λ (s : Result (A × Remaining) BadLine). s >>= λ x. next x.0 x.1) (r.example one.0 (onto one.1 (ending last))) ∙ (each r.value).start.reads one.1 one.3 last;
  }

  after_longer : (line : NumberedLine) (value : A) (after : Remaining) → ((other : Remaining) → step (onto (line ∷ []) other) ≡ Ok (value, other)) → (s : Result X BadLine) → OutcomeAtEnd IsBadAt any_line In (next value) after s → OutcomeAtEnd IsBadAt is_calm In both (onto (line ∷ []) after) s
  after_longer line value after given (Ok x) o = tt
  after_longer line value after given (Err fault) o =
      let left = onto (line ∷ []) after in
      let whole : (other : Remaining) → both (onto (line ∷ []) other) ≡ next value other = λ other. ap (λ (s : Result (A × Remaining) BadLine). s >>= λ x. next x.0 x.1) (given other) in
      record {
        front = line ∷ o.front;
        more = o.more;
        goes = record { value = o.goes.value; plain = o.goes.plain; calm = tt; reads = λ lines h last. whole (onto (o.front ++ lines) (ending last)) ∙ o.goes.reads lines h last };
        place = elim o.place as (λ _. AtLine IsBadAt is_calm In both (line ∷ o.front) left fault ⊎ AtEnd IsBadAt is_calm In (line ∷ o.front) left fault ⊎ Within IsBadAt is_calm In (line ∷ o.front) o.more left fault) [
          | inl a ↦ inl (record { line = a.line; lines = a.lines; split = ap (λ (ls : List NumberedLine). line ∷ ls) a.split; at = a.at; again = λ other. whole (onto o.front (record other { lines = a.line ∷ other.lines })) ∙ a.again other })
          | inr p ↦ elim p as (λ _. AtLine IsBadAt is_calm In both (line ∷ o.front) left fault ⊎ AtEnd IsBadAt is_calm In (line ∷ o.front) left fault ⊎ Within IsBadAt is_calm In (line ∷ o.front) o.more left fault) [
            | inl a ↦ inr (inl (record { whole = ap (λ (ls : List NumberedLine). line ∷ ls) a.whole; at = a.at }))
            | inr w ↦ inr (inr (record { lines = w.lines; split = ap (λ (ls : List NumberedLine). line ∷ ls) w.split; start = w.start; others = w.others; more_is = w.more_is; refused = w.refused }))
          ]
        ];
      }

  line_outcome : (last : ℕ) (ended : Bool) (lines : List NumberedLine) → let left : Remaining = record { lines = lines; last = last; ended = ended } in OutcomeAtEnd IsBadAt is_calm In both left (both left)
  line_outcome last ended [] =
      let left : Remaining = record { lines = []; last = last; ended = ended } in
      let n = r.none last ended in
      subst (OutcomeAtEnd IsBadAt is_calm In both left) (sym (ap (λ (s : Result (A × Remaining) BadLine). s >>= λ x. next x.0 x.1) n.1)) (record { front = []; more = more; goes = starts; place = inr (inl (record { whole = refl; at = n.2 })) })
  line_outcome last ended (line ∷ lines) =
      let left : Remaining = record { lines = line ∷ lines; last = last; ended = ended } in
      let after : Remaining = record { lines = lines; last = last; ended = ended } in
      elim (r.some line) as (λ _. OutcomeAtEnd IsBadAt is_calm In both left (both left)) [
        | inl s ↦ subst (OutcomeAtEnd IsBadAt is_calm In both left) (sym (ap (λ (q : Result (A × Remaining) BadLine). q >>= λ x. next x.0 x.1) (s.1 after))) (after_longer line s.0 after s.1 (next s.0 after) ((each s.0).outcome after))
        | inr s ↦ subst (OutcomeAtEnd IsBadAt is_calm In both left) (sym (ap (λ (q : Result (A × Remaining) BadLine). q >>= λ x. next x.0 x.1) (s.2 after)))
            (record { front = []; more = more; goes = starts; place = inl (record { line = line; lines = lines; split = refl; at = s.1; again = λ other. ap (λ (q : Result (A × Remaining) BadLine). q >>= λ x. next x.0 x.1) (s.2 other) }) })
      ]

  pub closes_after_line : Closes IsBadAt is_calm In (λ left. step left >>= λ x. next x.0 x.1)
  closes_after_line = record { first = more; start = starts; outcome = λ left. line_outcome left.last left.ended left.lines }
