-- The list of a desk's calls and its entries: at first, with one call more, and if there is no entry.
use Rattle.std.proofs.Common.{◌≡◌, ◌≢◌, ℕ, ◌==◌, ◌<◌, Bool, true, false, cond, List, [], ◌∷◌, ◌++◌, map, length, get_or, set, replicate, None, refl, sym, ap, ◌∙◌, subst, arith, append-nil, filter, get_or-set_same, get_or-set_other}
use Rattle.std.proofs.lemmas.List.{map-append, get_or-replicate}
use Rattle.std.proofs.lemmas.List.Elements.{filter-append, filter_map-append, All-nil, All-push, All-head}
use Rattle.std.proofs.lemmas.Bool.Decides.{nat_tests}
use Rattle.floor.specs.{Call, Entry, AreListed, calls_of_good, Step, CallMade, DueTaken, WaitsNoted, call_of_step, calls_of_steps}

abbrev of : ℕ → ℕ × Call → Bool
of good call = call.0 == good

-- the calls of a good among two lists of calls
pub calls_of_good-append : (xs ys : List (ℕ × Call)) (good : ℕ) → calls_of_good (xs ++ ys) good ≡ calls_of_good xs good ++ calls_of_good ys good
calls_of_good-append xs ys good = ap (map (λ c. c.1)) (filter-append (of good) xs ys) ∙ map-append (λ c. c.1) (filter (of good) xs) (filter (of good) ys)

one_call : (good : ℕ) (call : Call) (other : ℕ) → calls_of_good ((good, call) ∷ []) other ≡ cond (good == other) (call ∷ []) []
one_call good call other = by_test (good == other)
  where
    by_test : (b : Bool) → map (λ (c : ℕ × Call). c.1) (cond b ((good, call) ∷ []) []) ≡ cond b (call ∷ []) []
    by_test true = refl
    by_test false = refl

abbrev calls_in : List (ℕ × Entry) → List Call
calls_in entries = map (λ p. p.1.call) entries

pub listed_more : {entries : List (List (ℕ × Entry))} {calls : List (ℕ × Call)} → AreListed entries calls → (good : ℕ) (asked : Call) (position : ℕ) (e : Entry) → good < 28 → length entries ≡ 28 → e.call ≡ asked
    → AreListed (set entries good (get_or entries good [] ++ (position, e) ∷ [])) (calls ++ (good, asked) ∷ [])
listed_more {entries = entries} {calls = calls} listed good asked position e inside goods is = record {
  goods = All-push (λ (c : ℕ × Call). c.0 < 28) calls (good, asked) listed.goods inside;
  each = λ other low. by_test other low (good == other) refl ∙ ap (λ l. calls_of_good calls other ++ l) (sym (one_call good asked other)) ∙ sym (calls_of_good-append calls ((good, asked) ∷ []) other);
}
  where
    by_test : (other : ℕ) → other < 28 → (b : Bool) → (good == other) ≡ b → calls_in (get_or (set entries good (get_or entries good [] ++ (position, e) ∷ [])) other []) ≡ calls_of_good calls other ++ cond b (asked ∷ []) []
    by_test other low true here =
        let same : good ≡ other = grind (arith, nat_tests, here) in
        subst (λ k. calls_in (get_or (set entries good (get_or entries good [] ++ (position, e) ∷ [])) k []) ≡ calls_of_good calls k ++ asked ∷ []) same
        (ap calls_in (get_or-set_same entries good (get_or entries good [] ++ (position, e) ∷ []) [] (omega (arith, inside, goods)))
        ∙ map-append (λ p. p.1.call) (get_or entries good []) ((position, e) ∷ []) ∙ (λ i. listed.each good inside i ++ is i ∷ []))
    by_test other low false here =
        let apart : other ≢ good = grind (arith, nat_tests, here) in
        ap calls_in (get_or-set_other entries good other (get_or entries good [] ++ (position, e) ∷ []) [] apart) ∙ listed.each other low ∙ sym (append-nil (calls_of_good calls other))

-- the calls of steps, with a call more
pub calls_of_steps-call : (steps : List Step) (good : ℕ) (call : Call) → calls_of_steps (steps ++ CallMade good call ∷ []) ≡ calls_of_steps steps ++ (good, call) ∷ []
calls_of_steps-call steps good call = filter_map-append call_of_step steps (CallMade good call ∷ [])

-- the same with a step more that is no call
pub calls_of_steps-other : (steps : List Step) (step : Step) → call_of_step step ≡ None → calls_of_steps (steps ++ step ∷ []) ≡ calls_of_steps steps
calls_of_steps-other steps (DueTaken mark tick) none = filter_map-append call_of_step steps (DueTaken mark tick ∷ []) ∙ append-nil (calls_of_steps steps)
calls_of_steps-other steps (CallMade good call) none = cc
calls_of_steps-other steps (WaitsNoted waited) none = filter_map-append call_of_step steps (WaitsNoted waited ∷ []) ∙ append-nil (calls_of_steps steps)

-- the same if the code names the parts otherwise
pub listed_as : {entries entries' : List (List (ℕ × Entry))} {calls calls' : List (ℕ × Call)} → AreListed entries calls → entries' ≡ entries → calls' ≡ calls → AreListed entries' calls'
listed_as listed a b = subst (λ (t : List (List (ℕ × Entry)) × List (ℕ × Call)). AreListed t.0 t.1) (λ k. (sym a k, sym b k)) listed

-- a desk that made no call
pub listed_first : AreListed (replicate 28 []) []
listed_first = record { goods = All-nil (λ (c : ℕ × Call). c.0 < 28); each = λ good low. ap calls_in (get_or-replicate {A = List (ℕ × Entry)} 28 good [] [] low) }

-- if there is no entry, no call is listed
pub none_listed : (entries : List (List (ℕ × Entry))) (calls : List (ℕ × Call)) → entries ≡ replicate 28 [] → AreListed entries calls → calls ≡ []
none_listed entries [] none listed = refl
none_listed entries (call ∷ calls) none listed =
    let low = All-head (λ (c : ℕ × Call). c.0 < 28) call calls listed.goods in
    let here : [] ≡ calls_of_good (call ∷ calls) call.0 =
    sym (ap calls_in (ap (λ (rows : List (List (ℕ × Entry))). get_or rows call.0 []) none ∙ get_or-replicate {A = List (ℕ × Entry)} 28 call.0 [] [] low)) ∙ listed.each call.0 low in
    let own : (call.0 == call.0) ≡ true = grind (arith, nat_tests) in
    let some : [] ≡ call.1 ∷ calls_of_good calls call.0 = here ∙ ap (λ b. map (λ (c : ℕ × Call). c.1) (cond b (call ∷ filter (of call.0) calls) (filter (of call.0) calls))) own in
    absurd cc
