-- Each seat is given once, and a seat is taken exactly if it was given.
use Rattle.std.proofs.Common.{◌≡◌, ℕ, ◌+◌, ◌<◌, ◌≤◌, Bool, true, false, cond, List, [], ◌∷◌, length, get_or, set, refl, sym, ap, ◌∙◌, subst, arith, eq-eqb, ne_eqb, filter, ◌||◌, nat_lt, fold, get_or-set_same, get_or-set_other}
use Rattle.std.specs.List.{AllByRecursion}
use Rattle.std.proofs.lemmas.Bool.Decides.{nat_tests}
use Rattle.std.proofs.lemmas.List.Sums.{sum_by-cons}
use Rattle.std.proofs.lemmas.Bool.{or_right}
use mathlib.Core.Logic.{dite}
use native.Mathlib.Decide.{ℕ_discrete}
use Rattle.tacd.specs.Prelude.{Verdict, Seated, Syntax, WrongWord, Taken, Lost, gives_seat, seatings}
use Rattle.agent_gate.specs.Gates.{Seats, seats_after}
use Rattle.game_run.specs.Arriving.{HoldsInTurn}
use Rattle.game_run.proofs.KeptSeats.{as_many_seats}

-- an agent's seat is taken
abbrev pub is_taken : Seats → ℕ → Bool
is_taken seats agent = get_or seats.taken agent false

-- a verdict more
seatings_more : (verdict : Verdict) (verdicts : List Verdict) (agent : ℕ) → seatings (verdict ∷ verdicts) agent ≡ cond (gives_seat agent verdict) 1 0 + seatings verdicts agent
seatings_more verdict verdicts agent = sum_by-cons (λ (v : Verdict). cond (gives_seat agent v) 1 0) verdict verdicts

-- ---- a seat is taken if it was taken before, or given

or_false : (b : Bool) → b ≡ (b || false)
or_false true = refl
or_false false = refl

taken_next : (seats : Seats) (verdict : Verdict) (agent : ℕ) → agent < length seats.taken → is_taken (seats_after seats verdict) agent ≡ (is_taken seats agent || gives_seat agent verdict)
taken_next seats (Seated seat) agent inside = dite (ℕ_discrete seat agent)
    (λ is. let there : get_or (set seats.taken seat true) agent false ≡ true = ap (λ (n : ℕ). get_or (set seats.taken n true) agent false) is ∙ get_or-set_same seats.taken agent true false inside in
    there ∙ (sym (or_right (is_taken seats agent) true refl) ∙ ap (λ (b : Bool). is_taken seats agent || b) (sym (eq-eqb seat agent is))))
    (λ ne. get_or-set_other seats.taken seat agent true false (λ is. ne (sym is)) ∙ (or_false (is_taken seats agent) ∙ ap (λ (b : Bool). is_taken seats agent || b) (sym (ne_eqb seat agent ne))))
taken_next seats Syntax agent inside = or_false (is_taken seats agent)
taken_next seats WrongWord agent inside = or_false (is_taken seats agent)
taken_next seats Taken agent inside = or_false (is_taken seats agent)
taken_next seats Lost agent inside = or_false (is_taken seats agent)

pub taken_after : (seats : Seats) (verdicts : List Verdict) (agent : ℕ) → agent < length seats.taken → is_taken (fold seats_after seats verdicts) agent ≡ (is_taken seats agent || nat_lt 0 (seatings verdicts agent))
taken_after seats [] agent inside = or_false (is_taken seats agent)
taken_after seats (verdict ∷ verdicts) agent inside =
    taken_after (seats_after seats verdict) verdicts agent (subst (λ (n : ℕ). agent < n) (sym (as_many_seats seats verdict)) inside)
    ∙ (ap (λ (b : Bool). b || nat_lt 0 (seatings verdicts agent)) (taken_next seats verdict agent inside)
    ∙ (regroup (is_taken seats agent) (gives_seat agent verdict) (seatings verdicts agent)
    ∙ ap (λ (n : ℕ). is_taken seats agent || nat_lt 0 n) (sym (seatings_more verdict verdicts agent))))
  where
    regroup : (a b : Bool) (n : ℕ) → ((a || b) || nat_lt 0 n) ≡ (a || nat_lt 0 (cond b 1 0 + n))
    regroup true b n = refl
    regroup false true n = let some : nat_lt 0 (1 + n) ≡ true = grind (arith, nat_tests) in sym some
    regroup false false n = let bare : n ≡ 0 + n = omega arith in ap (nat_lt 0) bare

-- ---- a seat is given once

module _ {A B : Type 0} (Holds : Seats → Verdict → A → B → Type 0) (free : (seats : Seats) (agent : ℕ) (before : A) (after : B) → Holds seats (Seated agent) before after → is_taken seats agent ≡ false) where
  pub given_once : (seats : Seats) (befores : List A) (verdicts : List Verdict) (afters : List B) (agent : ℕ) → agent < length seats.taken → HoldsInTurn Holds seats befores verdicts afters →
      cond (is_taken seats agent) 1 0 + seatings verdicts agent ≤ 1
  given_once seats [] [] [] agent inside admitted = one_at_most (is_taken seats agent)
    where
      one_at_most : (b : Bool) → cond {A = ℕ} b 1 0 + 0 ≤ 1
      one_at_most true = omega arith
      one_at_most false = omega arith
  given_once seats [] [] (after ∷ afters) agent inside admitted = absurd admitted
  given_once seats [] (verdict ∷ verdicts) afters agent inside admitted = absurd admitted
  given_once seats (before ∷ befores) [] afters agent inside admitted = absurd admitted
  given_once seats (before ∷ befores) (verdict ∷ verdicts) [] agent inside admitted = absurd admitted
  given_once seats (before ∷ befores) (verdict ∷ verdicts) (after ∷ afters) agent inside admitted =
      let later = given_once (seats_after seats verdict) befores verdicts afters agent (subst (λ (n : ℕ). agent < n) (sym (as_many_seats seats verdict)) inside) admitted.1 in
      let here = one_next (is_taken seats agent) (gives_seat agent verdict) (is_taken (seats_after seats verdict) agent) (taken_next seats verdict agent inside) (free_there verdict admitted.0) in
      let more = seatings_more verdict verdicts agent in
      omega (arith, later, here, more)
    where
      free_there : (v : Verdict) → Holds seats v before after → gives_seat agent v ≡ true → is_taken seats agent ≡ false
      free_there (Seated seat) holds gives =
          let same : seat ≡ agent = grind (arith, nat_tests, gives) in
          subst (λ (n : ℕ). is_taken seats n ≡ false) same (free seats seat before after holds)
      free_there Syntax holds gives = absurd (let never : false ≡ true = gives in cc)
      free_there WrongWord holds gives = absurd (let never : false ≡ true = gives in cc)
      free_there Taken holds gives = absurd (let never : false ≡ true = gives in cc)
      free_there Lost holds gives = absurd (let never : false ≡ true = gives in cc)

      one_next : (a b c : Bool) → c ≡ (a || b) → (b ≡ true → a ≡ false) → cond a 1 0 + cond b 1 0 ≤ cond {A = ℕ} c 1 0
      one_next true true c is apart = absurd (let never : true ≡ false = apart refl in cc)
      one_next true false c is apart = rw is (omega arith)
      one_next false true c is apart = rw is (omega arith)
      one_next false false c is apart = omega arith

-- ---- tests that agree at each element keep the same elements

pub same_kept : (p q : ℕ → Bool) (ns : List ℕ) → AllByRecursion (λ n. p n ≡ q n) ns → filter p ns ≡ filter q ns
same_kept p q [] same = refl
same_kept p q (n ∷ ns) same = λ i. cond (same.0 i) (n ∷ same_kept p q ns same.1 i) (same_kept p q ns same.1 i)
