-- How many entries a caller has, and all callers together.
use Rattle.std.proofs.Common.{◌≡◌, ℕ, ◌+◌, ◌<◌, ◌≤◌, Bool, true, false, cond, List, [], ◌∷◌, ◌++◌, length, refl, sym, ◌∙◌, subst, arith, ne_eqb, length-append, ◌==◌}
use Rattle.std.specs.List.{AllByRecursion}
use Rattle.std.proofs.lemmas.List.Sums.{sum_by-cons, sum_by_push, count_by-le-length}
use mathlib.Core.Logic.{dite}
use native.Mathlib.Decide.{ℕ_discrete}
use Rattle.auction_core.specs.Prelude.{clock, entries_of, cap, part_from, part}
use Rattle.auction_rules.specs.History.{Entry}
use Rattle.auction_rules.proofs.Ranks.{at_most_one}
use Rattle.turn_lock.proofs.Parts.{nine_parts}

abbrev pub by : Entry → ℕ
by e = e.caller

abbrev pub AreCapped : List Entry → Type 0
AreCapped history = (caller : ℕ) → caller ≤ clock → entries_of history caller ≤ cap caller

length-part_from : (caller n : ℕ) (history : List Entry) → length (part_from by caller n history) ≡ entries_of history caller
length-part_from caller n [] = refl
length-part_from caller n (e ∷ history) =
    by_test (e.caller == caller) (length-part_from caller (n + 1) history) ∙ sym (sum_by-cons (λ (x : Entry). cond (x.caller == caller) 1 0) e history)
  where
    by_test : (b : Bool) → length (part_from by caller (n + 1) history) ≡ entries_of history caller →
        length (cond b ((n, e) ∷ part_from by caller (n + 1) history) (part_from by caller (n + 1) history)) ≡ cond b 1 0 + entries_of history caller
    by_test true ih = omega (arith, ih)
    by_test false ih = omega (arith, ih)

-- a caller's part of a history has its entries
pub length-part : (history : List Entry) (caller : ℕ) → length (part by history caller) ≡ entries_of history caller
length-part history caller = length-part_from caller 0 history

pub called_snoc : (history : List Entry) (e : Entry) → AllByRecursion (λ (x : Entry). x.caller ≤ clock) history → e.caller ≤ clock → AllByRecursion (λ (x : Entry). x.caller ≤ clock) (history ++ e ∷ [])
called_snoc [] e all is = (is, tt)
called_snoc (x ∷ history) e all is = (all.0, called_snoc history e all.1 is)

pub capped_snoc : (history : List Entry) (e : Entry) → AreCapped history → entries_of history e.caller < cap e.caller → AreCapped (history ++ e ∷ [])
capped_snoc history e capped room caller le =
    let more : entries_of (history ++ e ∷ []) caller ≡ entries_of history caller + cond (e.caller == caller) 1 0 = sum_by_push (λ (x : Entry). cond (x.caller == caller) 1 0) history e in
    dite (ℕ_discrete e.caller caller)
    (λ is. let room' : entries_of history caller < cap caller = subst (λ (k : ℕ). entries_of history k < cap k) is room in omega (arith, more, at_most_one (e.caller == caller)))
    (λ ne. omega (arith, more, none (e.caller == caller) (ne_eqb e.caller caller ne), capped caller le))
  where
    none : (b : Bool) → b ≡ false → cond {A = ℕ} b 1 0 ≡ 0
    none true h = absurd cc
    none false h = refl

-- all caps together
pub few_entries : (history : List Entry) → AllByRecursion (λ (x : Entry). x.caller ≤ clock) history → AreCapped history → length history ≤ 8256
few_entries history called capped =
    omega (
      arith,
      nine_parts by history called,
      at 0 (omega arith),
      at 1 (omega arith),
      at 2 (omega arith),
      at 3 (omega arith),
      at 4 (omega arith),
      at 5 (omega arith),
      at 6 (omega arith),
      at 7 (omega arith),
      at 8 (omega arith),
    )
  where
    at : (caller : ℕ) → caller ≤ 8 → length (part by history caller) ≤ cap caller
    at caller le = omega (arith, length-part history caller, capped caller le)

-- a caller with entries left has room
pub room_for : (history : List Entry) (e : Entry) → AllByRecursion (λ (x : Entry). x.caller ≤ clock) history → e.caller ≤ clock → AreCapped history → entries_of history e.caller < cap e.caller → length history < 8256
room_for history e called is capped room =
    omega (arith, few_entries (history ++ e ∷ []) (called_snoc history e called is) (capped_snoc history e capped room), length-append history (e ∷ []))

-- a caller of a short history has entries left
pub room_below : (history : List Entry) (caller : ℕ) → length history < 64 → length (part by history caller) < cap caller
room_below history caller few =
    omega (arith, few, length-part history caller, count_by-le-length (λ (e : Entry). e.caller == caller) history, at_least (caller == clock))
  where
    at_least : (b : Bool) → 64 ≤ cond b 64 1024
    at_least true = omega arith
    at_least false = omega arith
