-- The clock's calls of a log, and those that are due, one after the other.
use Rattle.std.proofs.Common.{◌≡◌, ◌≢◌, ℕ, ◌+◌, ◌≤◌, Bool, true, false, cond, List, [], ◌∷◌, ◌++◌, length, take, map, refl, sym, ap, ◌∙◌, Some, slice_get, append_assoc, append-nil, ne_eqb, eq-eqb, filter, ◌==◌}
use Rattle.std.proofs.lemmas.List.{map-append}
use Rattle.std.proofs.lemmas.List.Elements.{filter-append}
use Rattle.log_audit.specs.{Call, clock, clock_calls_in, calls_for}
use Rattle.auction_rules.specs.History.{Entry}
use Rattle.log_audit.proofs.Positions.{take_at, split_at, next_is}

pub calls_for-append : (good : ℕ) (calls more : List (ℕ × Call)) → calls_for good (calls ++ more) ≡ calls_for good calls ++ calls_for good more
calls_for-append good calls more =
    ap (map (λ (x : ℕ × Call). x.1)) (filter-append (λ (x : ℕ × Call). x.0 == good) calls more) ∙ map-append (λ (x : ℕ × Call). x.1) (filter (λ (x : ℕ × Call). x.0 == good) calls) (filter (λ (x : ℕ × Call). x.0 == good) more)

abbrev one_for : ℕ → ℕ × Call → List Call
one_for good x = cond (x.0 == good) (x.1 ∷ []) []

one_is : (good : ℕ) (x : ℕ × Call) → calls_for good (x ∷ []) ≡ one_for good x
one_is good x = by_test (x.0 == good)
  where
    by_test : (b : Bool) → map (λ (y : ℕ × Call). y.1) (cond b (x ∷ []) []) ≡ cond b (x.1 ∷ []) []
    by_test true = refl
    by_test false = refl

-- a call of the good only, and one of another good
pub for_own : (good other : ℕ) (call : Call) → other ≡ good → calls_for good ((other, call) ∷ []) ≡ call ∷ []
for_own good other call same = one_is good (other, call) ∙ ap (λ b. cond {A = List Call} b (call ∷ []) []) (eq-eqb other good same)

pub for_other : (good other : ℕ) (call : Call) → other ≢ good → calls_for good ((other, call) ∷ []) ≡ []
for_other good other call ne = one_is good (other, call) ∙ ap (λ b. cond {A = List Call} b (call ∷ []) []) (ne_eqb other good ne)

-- one call more
pub calls_more : (good : ℕ) (all : List (ℕ × Call)) (n : ℕ) (next : ℕ × Call) (first so_far : List Call) → slice_get all n ≡ Some next → so_far ≡ first ++ calls_for good (take n all) →
    so_far ++ calls_for good (next ∷ []) ≡ first ++ calls_for good (take (n + 1) all)
calls_more good all n next first so_far at is =
    ap (λ (l : List Call). l ++ calls_for good (next ∷ [])) is
    ∙ (append_assoc first (calls_for good (take n all)) (calls_for good (next ∷ []))
    ∙ ap (λ (l : List Call). first ++ l) (sym (calls_for-append good (take n all) (next ∷ [])) ∙ ap (calls_for good) (sym (take_at all n next at))))

-- ---- the log's

clock_calls-append : (xs ys : List Entry) → clock_calls_in (xs ++ ys) ≡ clock_calls_in xs ++ clock_calls_in ys
clock_calls-append xs ys =
    ap (map (λ (e : Entry). e.call)) (filter-append (λ (e : Entry). e.caller == clock) xs ys) ∙ map-append (λ (e : Entry). e.call) (filter (λ (e : Entry). e.caller == clock) xs) (filter (λ (e : Entry). e.caller == clock) ys)

own_first : (e : Entry) (rest : List Entry) → e.caller ≡ 8 → clock_calls_in (e ∷ rest) ≡ e.call ∷ clock_calls_in rest
own_first e rest is = ap (λ b. map (λ (x : Entry). x.call) (cond b (e ∷ filter (λ (x : Entry). x.caller == clock) rest) (filter (λ (x : Entry). x.caller == clock) rest))) (eq-eqb e.caller 8 is)

other_first : (e : Entry) (rest : List Entry) → e.caller ≢ 8 → clock_calls_in (e ∷ rest) ≡ clock_calls_in rest
other_first e rest ne = ap (λ b. map (λ (x : Entry). x.call) (cond b (e ∷ filter (λ (x : Entry). x.caller == clock) rest) (filter (λ (x : Entry). x.caller == clock) rest))) (ne_eqb e.caller 8 ne)

module _ (history : List Entry) (due : List Call) (position made : ℕ) (e : Entry) (at : slice_get history position ≡ Some e) (so_far : clock_calls_in (take position history) ≡ take made due) where
  -- if the calls are those that are due, the next one of the clock is the next due one
  pub next_due : e.caller ≡ 8 → made ≤ length due → clock_calls_in history ≡ due → slice_get due made ≡ Some e.call
  next_due own le is =
      let split = split_at history position e at in
      next_is due (clock_calls_in split.0) made e.call le
      (sym is ∙ (ap clock_calls_in split.1 ∙ (clock_calls-append (take position history) (e ∷ split.0) ∙ (λ i. so_far i ++ own_first e split.0 own i))))

  pub made_more : e.caller ≡ 8 → slice_get due made ≡ Some e.call → clock_calls_in (take (position + 1) history) ≡ take (made + 1) due
  made_more own next =
      ap clock_calls_in (take_at history position e at) ∙ (clock_calls-append (take position history) (e ∷ []) ∙ ((λ i. so_far i ++ own_first e [] own i) ∙ sym (take_at due made e.call next)))

  pub made_same : e.caller ≢ 8 → clock_calls_in (take (position + 1) history) ≡ take made due
  made_same ne = ap clock_calls_in (take_at history position e at) ∙ (clock_calls-append (take position history) (e ∷ []) ∙ ((λ i. so_far i ++ other_first e [] ne i) ∙ append-nil (take made due)))
