-- A new bid in place of its agent's earlier one: the units of the others stay, and there is room for its own.
use Rattle.std.proofs.Common.{◌≡◌, ℕ, zero, suc, ◌+◌, ◌*◌, ◌<◌, ◌≤◌, Bool, true, false, cond, List, [], ◌∷◌, ◌++◌, length, set, refl, sym, ◌∙◌, arith, Option, Some, None, ◌≢◌, not, ◌==◌, sum_by, count_by, filter}
use Rattle.std.proofs.lemmas.List.Sums.{sum_by-cons, sum_by-append, sum_by-take-le, count_by-le-length}
use Rattle.std.proofs.lemmas.Bool.Decides.{nat_tests}
use Rattle.hotel_book.specs.{Placed, BidUnit, Unit as ShownUnit, units_of, shown_unit, AreShown, units_of_bids, won, AreOwn, standing}
use Rattle.auction_rules.proofs.Standing.{Each, each-weaker, number_is, bid_owned}

sum_alike : (f g : BidUnit → ℕ) (units : List BidUnit) → Each (λ u. f u ≡ g u) units → sum_by f units ≡ sum_by g units
sum_alike f g [] h = refl
sum_alike f g (u ∷ units) h = sum_by-cons f u units ∙ rw (h.0, sum_alike f g units h.1) (sym (sum_by-cons g u units))

sum_none : (units : List BidUnit) → sum_by (λ _. 0) units ≡ 0
sum_none [] = refl
sum_none (u ∷ units) = sum_by-cons (λ _. 0) u units ∙ rw (sum_none units) (omega arith)

sum_ones : (units : List BidUnit) → sum_by (λ _. 1) units ≡ length units
sum_ones [] = refl
sum_ones (u ∷ units) = sum_by-cons (λ _. 1) u units ∙ rw (sum_ones units) (omega arith)

-- the weight of the units of all agents but one
abbrev but : ℕ → (BidUnit → ℕ) → BidUnit → ℕ
but agent weight u = cond (not (u.agent == agent)) (weight u) 0

own_weigh_none : (agent : ℕ) (weight : BidUnit → ℕ) (bid : Placed) → bid.agent ≡ agent → sum_by (but agent weight) (units_of bid) ≡ 0
own_weigh_none agent weight bid is =
    sum_alike (but agent weight) (λ _. 0) (units_of bid) (each-weaker (λ u. u.agent ≡ bid.agent) (λ u. but agent weight u ≡ 0) (units_of bid) (λ u k. none u (k ∙ is)) (bid_owned bid))
    ∙ sum_none (units_of bid)
  where
    none : (u : BidUnit) → u.agent ≡ agent → but agent weight u ≡ 0
    none u same = let e : (u.agent == agent) ≡ true = grind (arith, nat_tests) in rw e refl

others_weigh_all : (agent : ℕ) (weight : BidUnit → ℕ) (bid : Placed) → (bid.agent ≡ agent → ⊥) → sum_by (but agent weight) (units_of bid) ≡ sum_by weight (units_of bid)
others_weigh_all agent weight bid differ =
    sum_alike (but agent weight) weight (units_of bid) (each-weaker (λ u. u.agent ≡ bid.agent) (λ u. but agent weight u ≡ weight u) (units_of bid) (λ u k. all u (λ e. differ (sym k ∙ e))) (bid_owned bid))
  where
    all : (u : BidUnit) → (u.agent ≡ agent → ⊥) → but agent weight u ≡ weight u
    all u other = by_test (u.agent == agent) refl
      where
        by_test : (b : Bool) → (u.agent == agent) ≡ b → cond (not b) (weight u) 0 ≡ weight u
        by_test true is = absurd (other (number_is u.agent agent is))
        by_test false is = refl

-- bids of later agents
later_weigh_all : (agent from : ℕ) (weight : BidUnit → ℕ) (bids : List (Option Placed)) → agent < from → AreOwn from bids → sum_by (but agent weight) (units_of_bids bids) ≡ sum_by weight (units_of_bids bids)
later_weigh_all agent from weight [] lt own = refl
later_weigh_all agent from weight (None ∷ bids) lt own = later_weigh_all agent (suc from) weight bids (omega arith) own
later_weigh_all agent from weight (Some bid ∷ bids) lt own =
    sum_by-append (but agent weight) (units_of bid) (units_of_bids bids)
    ∙ rw (others_weigh_all agent weight bid (λ e. absurd (let is = own.0 in omega (arith, lt, is, e))), later_weigh_all agent (suc from) weight bids (omega arith) own.2)
    (sym (sum_by-append weight (units_of bid) (units_of_bids bids)))

-- ---- one bid in place of another

pub weigh_replaced : (agent from i : ℕ) (weight : BidUnit → ℕ) (bids : List (Option Placed)) (new : Placed) → agent ≡ from + i → i < length bids → AreOwn from bids →
    sum_by (but agent weight) (units_of_bids bids) + sum_by weight (units_of new) ≡ sum_by weight (units_of_bids (set bids i (Some new)))
weigh_replaced agent from i weight [] new at lt own = absurd (omega arith)
weigh_replaced agent from zero weight (None ∷ bids) new at lt own =
    omega (arith, later_weigh_all agent (suc from) weight bids (omega (arith, at)) own, sum_by-append weight (units_of new) (units_of_bids bids))
weigh_replaced agent from zero weight (Some bid ∷ bids) new at lt own =
    omega (
      arith,
      later_weigh_all agent (suc from) weight bids (omega (arith, at)) own.2,
      sum_by-append weight (units_of new) (units_of_bids bids),
      sum_by-append (but agent weight) (units_of bid) (units_of_bids bids),
      own_weigh_none agent weight bid (let is = own.0 in omega (arith, at, is)),
    )
weigh_replaced agent from (suc i) weight (None ∷ bids) new at lt own = weigh_replaced agent (suc from) i weight bids new (omega (arith, at)) (omega arith) own
weigh_replaced agent from (suc i) weight (Some bid ∷ bids) new at lt own =
    omega (
      arith,
      weigh_replaced agent (suc from) i weight bids new (omega (arith, at)) (omega arith) own.2,
      sum_by-append (but agent weight) (units_of bid) (units_of_bids bids),
      sum_by-append weight (units_of bid) (units_of_bids (set bids i (Some new))),
      others_weigh_all agent weight bid (λ e. absurd (let is = own.0 in omega (arith, at, is, e))),
    )

pub own_replaced : (from i : ℕ) (bids : List (Option Placed)) (new : Placed) → new.agent ≡ from + i → length (units_of new) ≤ 16 → AreOwn from bids → AreOwn from (set bids i (Some new))
own_replaced from i [] new at few own = tt
own_replaced from zero (None ∷ bids) new at few own = (omega (arith, at), few, own)
own_replaced from zero (Some bid ∷ bids) new at few own = (omega (arith, at), few, own.2)
own_replaced from (suc i) (None ∷ bids) new at few own = own_replaced (suc from) i bids new (omega (arith, at)) few own
own_replaced from (suc i) (Some bid ∷ bids) new at few own = (own.0, own.1, own_replaced (suc from) i bids new (omega (arith, at)) few own.2)

-- ---- there is room

few_units : (from : ℕ) (bids : List (Option Placed)) → AreOwn from bids → length (units_of_bids bids) ≤ 16 * length bids
few_units from [] own = omega arith
few_units from (None ∷ bids) own = omega (arith, few_units (suc from) bids own)
few_units from (Some bid ∷ bids) own =
    let few = own.1 in
    omega (arith, few, few_units (suc from) bids own.2, sum_ones (units_of bid), sum_ones (units_of_bids bids), sum_ones (units_of bid ++ units_of_bids bids), sum_by-append (λ _. 1) (units_of bid) (units_of_bids bids))

few_others : (agent from i : ℕ) (bids : List (Option Placed)) → agent ≡ from + i → i < length bids → AreOwn from bids → sum_by (but agent (λ _. 1)) (units_of_bids bids) + 16 ≤ 16 * length bids
few_others agent from i [] at lt own = absurd (omega arith)
few_others agent from zero (None ∷ bids) at lt own =
    omega (arith, later_weigh_all agent (suc from) (λ _. 1) bids (omega (arith, at)) own, sum_ones (units_of_bids bids), few_units (suc from) bids own)
few_others agent from zero (Some bid ∷ bids) at lt own =
    omega (
      arith,
      later_weigh_all agent (suc from) (λ _. 1) bids (omega (arith, at)) own.2,
      sum_ones (units_of_bids bids),
      few_units (suc from) bids own.2,
      sum_by-append (but agent (λ _. 1)) (units_of bid) (units_of_bids bids),
      own_weigh_none agent (λ _. 1) bid (let is = own.0 in omega (arith, at, is)),
    )
few_others agent from (suc i) (None ∷ bids) at lt own = omega (arith, few_others agent (suc from) i bids (omega (arith, at)) (omega arith) own)
few_others agent from (suc i) (Some bid ∷ bids) at lt own =
    let few = own.1 in
    omega (
      arith,
      few,
      few_others agent (suc from) i bids (omega (arith, at)) (omega arith) own.2,
      sum_by-append (but agent (λ _. 1)) (units_of bid) (units_of_bids bids),
      others_weigh_all agent (λ _. 1) bid (λ e. absurd (let is = own.0 in omega (arith, at, is, e))),
      sum_ones (units_of bid),
    )

-- the units of the others leave room for 16
pub room_for_bid : (agent : ℕ) (bids : List (Option Placed)) (units : List ShownUnit) → agent < length bids → length bids ≡ 8 → AreOwn 0 bids → AreShown (units_of_bids bids) units →
    count_by (λ u. not (u.agent == agent)) units + 16 ≤ 128
room_for_bid agent bids units lt eight own shown =
    omega (arith, eight, shown (λ u. cond (not (u.agent == agent)) 1 0), few_others agent 0 agent bids (omega arith) lt own)

-- ---- what stands with the new bid

sum_by-filter : (test : ShownUnit → Bool) (weight : ShownUnit → ℕ) (units : List ShownUnit) → sum_by weight (filter test units) ≡ sum_by (λ u. cond (test u) (weight u) 0) units
sum_by-filter test weight [] = refl
sum_by-filter test weight (u ∷ units) = by_test (test u) (sum_by-filter test weight units) ∙ sym (sum_by-cons (λ v. cond (test v) (weight v) 0) u units)
  where
    by_test : (b : Bool) → sum_by weight (filter test units) ≡ sum_by (λ v. cond (test v) (weight v) 0) units →
        sum_by weight (cond b (u ∷ filter test units) (filter test units)) ≡ cond b (weight u) 0 + sum_by (λ v. cond (test v) (weight v) 0) units
    by_test true ih = sum_by-cons weight u (filter test units) ∙ rw ih refl
    by_test false ih = omega (arith, ih)

pub shown_replaced : (bids : List (Option Placed)) (new : Placed) (units units' : List ShownUnit) → new.agent < length bids → AreOwn 0 bids → AreShown (units_of_bids bids) units →
    ((weight : ShownUnit → ℕ) → sum_by weight units' ≡ sum_by weight (filter (λ u. not (u.agent == new.agent)) units) + sum_by (λ u. weight (shown_unit u)) (units_of new)) →
    AreShown (units_of_bids (set bids new.agent (Some new))) units'
shown_replaced bids new units units' lt own shown put = λ weight.
    omega (
      arith,
      put weight,
      sum_by-filter (λ u. not (u.agent == new.agent)) weight units,
      shown (λ u. cond (not (u.agent == new.agent)) (weight u) 0),
      weigh_replaced new.agent 0 new.agent (λ u. weight (shown_unit u)) bids new (omega arith) lt own,
    )

-- ---- no agent has more than 16 units

own_weigh_one : (agent : ℕ) → BidUnit → ℕ
own_weigh_one agent u = cond (u.agent == agent) 1 0

none_of_others : (agent : ℕ) (bid : Placed) → (bid.agent ≡ agent → ⊥) → sum_by (own_weigh_one agent) (units_of bid) ≡ 0
unfolding own_weigh_one
none_of_others agent bid differ =
    sum_alike (own_weigh_one agent) (λ _. 0) (units_of bid) (each-weaker (λ u. u.agent ≡ bid.agent) (λ u. own_weigh_one agent u ≡ 0) (units_of bid) (λ u k. none u (λ e. differ (sym k ∙ e))) (bid_owned bid))
    ∙ sum_none (units_of bid)
  where
    none : (u : BidUnit) → (u.agent ≡ agent → ⊥) → cond {A = ℕ} (u.agent == agent) 1 0 ≡ 0
    none u other = by_test (u.agent == agent) refl
      where
        by_test : (b : Bool) → (u.agent == agent) ≡ b → cond {A = ℕ} b 1 0 ≡ 0
        by_test true is = absurd (other (number_is u.agent agent is))
        by_test false is = refl

few_of_bid : (agent : ℕ) (bid : Placed) → length (units_of bid) ≤ 16 → sum_by (own_weigh_one agent) (units_of bid) ≤ 16
unfolding own_weigh_one
few_of_bid agent bid few = omega (arith, few, count_by-le-length (λ (u : BidUnit). u.agent == agent) (units_of bid))

none_later : (agent from : ℕ) (bids : List (Option Placed)) → agent < from → AreOwn from bids → sum_by (own_weigh_one agent) (units_of_bids bids) ≡ 0
unfolding own_weigh_one
none_later agent from [] lt own = refl
none_later agent from (None ∷ bids) lt own = none_later agent (suc from) bids (omega arith) own
none_later agent from (Some bid ∷ bids) lt own =
    omega (
      arith,
      sum_by-append (own_weigh_one agent) (units_of bid) (units_of_bids bids),
      none_of_others agent bid (λ e. absurd (let is = own.0 in omega (arith, lt, is, e))),
      none_later agent (suc from) bids (omega arith) own.2,
    )

few_own : (agent from : ℕ) (bids : List (Option Placed)) → AreOwn from bids → sum_by (own_weigh_one agent) (units_of_bids bids) ≤ 16
unfolding own_weigh_one
few_own agent from [] own = omega arith
few_own agent from (None ∷ bids) own = few_own agent (suc from) bids own
few_own agent from (Some bid ∷ bids) own = by_test (agent == bid.agent) refl (few_own agent (suc from) bids own.2)
  where
    split : sum_by (own_weigh_one agent) (units_of bid ++ units_of_bids bids) ≡ sum_by (own_weigh_one agent) (units_of bid) + sum_by (own_weigh_one agent) (units_of_bids bids)
    split = sum_by-append (own_weigh_one agent) (units_of bid) (units_of_bids bids)

    by_test : (b : Bool) → (agent == bid.agent) ≡ b → sum_by (own_weigh_one agent) (units_of_bids bids) ≤ 16 → sum_by (own_weigh_one agent) (units_of bid ++ units_of_bids bids) ≤ 16
    by_test true is rest =
        let here : agent ≡ bid.agent = grind (arith, nat_tests) in
        omega (arith, split, few_of_bid agent bid own.1, none_later agent (suc from) bids (let at = own.0 in omega (arith, here, at)) own.2)
    by_test false is rest =
        let other : agent ≢ bid.agent = grind (arith, nat_tests) in
        omega (arith, split, rest, none_of_others agent bid (λ e. absurd (other (sym e))))

few_standing : (agent : ℕ) (bids : List (Option Placed)) (closed : Bool) → AreOwn 0 bids → sum_by (own_weigh_one agent) (standing bids closed) ≤ 16
few_standing agent bids true own = omega arith
few_standing agent bids false own = few_own agent 0 bids own

-- an agent has at most 16 of the units that take the rooms
pub few_won : (rooms agent : ℕ) (bids : List (Option Placed)) (closed : Bool) (units : List ShownUnit) → AreOwn 0 bids → AreShown (standing bids closed) units → won rooms units agent ≤ 16
unfolding own_weigh_one
few_won rooms agent bids closed units own shown =
    omega (arith, sum_by-take-le (λ (u : ShownUnit). cond (u.agent == agent) 1 0) units rooms, shown (λ u. cond (u.agent == agent) 1 0), few_standing agent bids closed own)
