-- The ticket match leaves no two units that would trade.
use Rattle.std.proofs.Common.{◌≡◌, ℕ, ◌≤◌, Bool, true, false, cond, List, [], ◌∷◌, ◌++◌, map, refl, sym, ap, ◌∙◌, subst, arith, Option, Some, None, ◌≢◌, not, ◌&&◌, ◌||◌, ◌==◌, nat_lt, filter, find, if◌then◌else◌}
use Rattle.std.specs.Prelude.{⊤}
use Rattle.std.specs.List.{AllByRecursion, list_all, list_any}
use Rattle.std.proofs.lemmas.Bool.{and_parts, or_parts, or_right, not-true}
use Rattle.std.proofs.lemmas.Bool.Decides.{nat_tests}
use Rattle.tac_base.specs.declared.calls.Trade.{Trade}
use Rattle.auction_rules.specs.declared.units.BidUnit.{BidUnit}
use Rattle.auction_rules.specs.{same_side, same_unit, among, faces, goes_before, best, crosses, if_crossing, partner, pair_with, not_taken, pairs, pair_trade, ticket_trades, units_of_pairs, ticket_gone}
use Rattle.auction_rules.proofs.Lists.{all_alike, all_passing}
use Rattle.auction_rules.proofs.Agents.{number_same}
use Rattle.auction_rules.proofs.Standing.{Each, each-filter, each-weaker, same_is, same_self, among-filter}

-- ---- which of two units of one side goes before the other

-- the places of a price, a position and an index, if the better price is the lower one
abbrev lower_first : ℕ → ℕ → ℕ → ℕ → ℕ → ℕ → Bool
lower_first p n i q m j = nat_lt p q || ((p == q) && (nat_lt n m || ((n == m) && nat_lt i j)))

-- and if it is the higher one
abbrev higher_first : ℕ → ℕ → ℕ → ℕ → ℕ → ℕ → Bool
higher_first p n i q m j = nat_lt q p || ((p == q) && (nat_lt n m || ((n == m) && nat_lt i j)))

lower_not_self : (p n i : ℕ) → lower_first p n i p n i ≡ false
lower_not_self p n i = grind (arith, nat_tests)

higher_not_self : (p n i : ℕ) → higher_first p n i p n i ≡ false
higher_not_self p n i = grind (arith, nat_tests)

lower_one_way : (p n i q m j : ℕ) → lower_first p n i q m j ≡ true → lower_first q m j p n i ≡ false
lower_one_way p n i q m j h = grind (arith, nat_tests)

higher_one_way : (p n i q m j : ℕ) → higher_first p n i q m j ≡ true → higher_first q m j p n i ≡ false
higher_one_way p n i q m j h = grind (arith, nat_tests)

lower_never : (p n i q m j r l k : ℕ) → lower_first p n i q m j ≡ false → lower_first q m j r l k ≡ false → lower_first p n i r l k ≡ false
lower_never p n i q m j r l k h g = grind (arith, nat_tests)

higher_never : (p n i q m j r l k : ℕ) → higher_first p n i q m j ≡ false → higher_first q m j r l k ≡ false → higher_first p n i r l k ≡ false
higher_never p n i q m j r l k h g = grind (arith, nat_tests)

before_is : (b : Bool) (u v : BidUnit) → u.buys ≡ b →
    goes_before u v ≡ cond b (higher_first u.price u.position u.index v.price v.position v.index) (lower_first u.price u.position u.index v.price v.position v.index)
before_is true u v h = rw h refl
before_is false u v h = rw h refl

not_self : (b : Bool) (u : BidUnit) → u.buys ≡ b → goes_before u u ≡ false
not_self true u h = before_is true u u h ∙ higher_not_self u.price u.position u.index
not_self false u h = before_is false u u h ∙ lower_not_self u.price u.position u.index

pub one_way : (b : Bool) (u v : BidUnit) → u.buys ≡ b → v.buys ≡ b → goes_before u v ≡ true → goes_before v u ≡ false
one_way true u v hu hv h = before_is true v u hv ∙ higher_one_way u.price u.position u.index v.price v.position v.index (sym (before_is true u v hu) ∙ h)
one_way false u v hu hv h = before_is false v u hv ∙ lower_one_way u.price u.position u.index v.price v.position v.index (sym (before_is false u v hu) ∙ h)

-- if u does not go before v, nor v before w, then u does not go before w
never : (b : Bool) (u v w : BidUnit) → u.buys ≡ b → v.buys ≡ b → goes_before u v ≡ false → goes_before v w ≡ false → goes_before u w ≡ false
never true u v w hu hv h g =
    before_is true u w hu
    ∙ higher_never u.price u.position u.index v.price v.position v.index w.price w.position w.index (sym (before_is true u v hu) ∙ h) (sym (before_is true v w hv) ∙ g)
never false u v w hu hv h g =
    before_is false u w hu
    ∙ lower_never u.price u.position u.index v.price v.position v.index w.price w.position w.index (sym (before_is false u v hu) ∙ h) (sym (before_is false v w hv) ∙ g)

-- ---- the best of some units

-- the best of a unit and others
first_of : BidUnit → List BidUnit → BidUnit
first_of u [] = u
first_of u (v ∷ vs) = first_of (if goes_before v u then v else u) vs

-- none of them goes before it
first_is_first : (b : Bool) (u : BidUnit) (vs : List BidUnit) → u.buys ≡ b → Each (λ v. v.buys ≡ b) vs →
    (goes_before u (first_of u vs) ≡ false) × Each (λ v. goes_before v (first_of u vs) ≡ false) vs
unfolding first_of
first_is_first b u [] hu h = (not_self b u hu, tt)
first_is_first b u (v ∷ vs) hu h = by_test (goes_before v u) refl (λ w hw. first_is_first b w vs hw h.1)
  where
    Firsts : BidUnit → Type 0
    Firsts m = (goes_before u m ≡ false) × Each (λ x. goes_before x m ≡ false) (v ∷ vs)

    by_test : (t : Bool) → goes_before v u ≡ t →
        ((w : BidUnit) → w.buys ≡ b → (goes_before w (first_of w vs) ≡ false) × Each (λ x. goes_before x (first_of w vs) ≡ false) vs) → Firsts (first_of (cond t v u) vs)
    by_test true before more =
        let rest = more v h.0 in (never b u v (first_of v vs) hu h.0 (one_way b v u h.0 hu before) rest.0, (rest.0, rest.1))
    by_test false before more =
        let rest = more u hu in (rest.0, (never b v u (first_of u vs) h.0 hu before rest.0, rest.1))

-- it is one of them
any_first : (p : BidUnit → Bool) (u : BidUnit) (vs : List BidUnit) → p (first_of u vs) ≡ true → list_any p (u ∷ vs) ≡ true
unfolding first_of
any_first p u [] h = rw h refl
any_first p u (v ∷ vs) h = by_test (goes_before v u) (any_first p (if goes_before v u then v else u) vs h)
  where
    last_two : (a c d : Bool) → (c || d) ≡ true → (a || (c || d)) ≡ true
    last_two true c d g = refl
    last_two false c d g = g

    outer_two : (a c d : Bool) → (a || d) ≡ true → (a || (c || d)) ≡ true
    outer_two true c d g = refl
    outer_two false true d g = refl
    outer_two false false d g = g

    by_test : (t : Bool) → (p (cond t v u) || list_any p vs) ≡ true → (p u || (p v || list_any p vs)) ≡ true
    by_test true g = last_two (p u) (p v) (list_any p vs) g
    by_test false g = outer_two (p u) (p v) (list_any p vs) g

pub all_pass : (test : BidUnit → Bool) (us : List BidUnit) → Each (λ u. test u ≡ true) us → list_all test us ≡ true
all_pass test [] h = refl
all_pass test (u ∷ us) h = rw (h.0, all_pass test us h.1) refl

find_any : (test : BidUnit → Bool) (us : List BidUnit) → list_any test us ≡ true → (w : BidUnit) × ((find test us ≡ Some w) × (test w ≡ true))
find_any test [] h = absurd cc
find_any test (u ∷ us) h = by_test (test u) refl h (λ g. find_any test us g)
  where
    by_test : (t : Bool) → test u ≡ t → (t || list_any test us) ≡ true → (list_any test us ≡ true → (w : BidUnit) × ((find test us ≡ Some w) × (test w ≡ true))) →
        (w : BidUnit) × ((cond t (Some u) (find test us) ≡ Some w) × (test w ≡ true))
    by_test true is g more = (u, (refl, is))
    by_test false is g more = more g

-- what holds of each unit holds of one that is among them
pub each_among : (P : BidUnit → Type 0) (u : BidUnit) (us : List BidUnit) → Each P us → among u us ≡ true → P u
each_among P u [] h is = absurd cc
each_among P u (v ∷ us) h is = by_test (same_unit u v) refl is (λ later. each_among P u us h.1 later)
  where
    by_test : (t : Bool) → same_unit u v ≡ t → (t || among u us) ≡ true → (among u us ≡ true → P u) → P u
    by_test true same found more = subst P (sym (same_is u v same)) h.0
    by_test false same found more = more found

pub each_passes : (test : BidUnit → Bool) (us : List BidUnit) → list_all test us ≡ true → Each (λ u. test u ≡ true) us
each_passes test [] h = tt
each_passes test (u ∷ us) h = let both = and_parts (test u) (list_all test us) h in (both.0, each_passes test us both.1)

-- among units of one side there is a best one, and none goes before it
best_is : (b : Bool) (us : List BidUnit) (v : BidUnit) → Each (λ u. u.buys ≡ b) us → among v us ≡ true → (w : BidUnit) × ((best us ≡ Some w) × (goes_before v w ≡ false))
best_is b [] v h is = absurd cc
best_is b (u ∷ us) v h is =
    let firsts = first_is_first b u us h.0 h.1 in
    let found = find_any test (u ∷ us) (any_first test u us (all_pass (λ x. not (goes_before x (first_of u us))) (u ∷ us) (rw firsts.0 refl, each-weaker _ _ us (λ x k. ap not k) firsts.1))) in
    (found.0, (found.1.0, not-true (goes_before v found.0) (each_among (λ x. not (goes_before x found.0) ≡ true) v (u ∷ us) (each_passes (λ x. not (goes_before x found.0)) (u ∷ us) found.1.1) is)))
  where
    test : BidUnit → Bool
    test w = list_all (λ x. not (goes_before x w)) (u ∷ us)

-- ---- the partner of an arriving unit

pub faces_side : (u v : BidUnit) → faces u v ≡ true → v.buys ≡ not u.buys
faces_side u v h = by_sides (not (u.agent == v.agent)) u.buys v.buys h
  where
    by_sides : (a b c : Bool) → (a && not (same_side b c)) ≡ true → c ≡ not b
    by_sides true true true g = cc
    by_sides true true false g = refl
    by_sides true false true g = refl
    by_sides true false false g = cc
    by_sides false b c g = absurd cc

-- if a unit crosses one that it faces, it crosses the better ones
pub crosses_better : (b : Bool) (u v w : BidUnit) → u.buys ≡ b → v.buys ≡ not b → goes_before v w ≡ false → crosses u v ≡ true → crosses u w ≡ true
crosses_better true u v w hu hv before h = grind (arith, nat_tests)
crosses_better false u v w hu hv before h = grind (arith, nat_tests)

-- a unit without a partner crosses none of those that it faces
partner_none : (standing : List BidUnit) (u v : BidUnit) → partner standing u ≡ None → among v standing ≡ true → faces u v ≡ true → crosses u v ≡ false
partner_none standing u v none is facing = by_test (crosses u v) refl
  where
    faced : List BidUnit
    faced = filter (faces u) standing

    found : (w : BidUnit) × ((best faced ≡ Some w) × (goes_before v w ≡ false))
    found = best_is (not u.buys) faced v (all_passing (λ x. x.buys ≡ not u.buys) (faces u) standing (λ x h. faces_side u x h)) (among-filter v (faces u) standing ∙ rw (is, facing) refl)

    crossed : (t : Bool) → crosses u found.0 ≡ t → t ≡ true → if_crossing u (best faced) ≡ None → crosses u v ≡ false
    crossed true here same h = let some : if_crossing u (best faced) ≡ Some found.0 = rw (found.1.0, here) refl in absurd cc
    crossed false here same h = cc

    by_test : (t : Bool) → crosses u v ≡ t → crosses u v ≡ false
    by_test true h = crossed (crosses u found.0) refl (crosses_better u.buys u v found.0 refl (faces_side u v facing) found.1.1 h) none
    by_test false h = h

-- an arriving unit that does not trade crosses none of those that it faces and that do not trade
pub unmatched : (standing arriving : List BidUnit) (u v : BidUnit) → among u arriving ≡ true → among v standing ≡ true → faces u v ≡ true →
    among u (ticket_gone standing arriving) ≡ false → among v (ticket_gone standing arriving) ≡ false → crosses u v ≡ false
unmatched standing [] u v arrives stands facing u_stays v_stays = absurd cc
unmatched standing (x ∷ xs) u v arrives stands facing u_stays v_stays =
    by_partner (partner standing x) refl arrives u_stays v_stays (λ left later kept u_left v_left. unmatched left xs u v later kept facing u_left v_left)
  where
    More : Type 0
    More =
        (left : List BidUnit) → among u xs ≡ true → among v left ≡ true → among u (ticket_gone left xs) ≡ false → among v (ticket_gone left xs) ≡ false → crosses u v ≡ false

    later : (t a : Bool) → t ≡ false → (t || a) ≡ true → a ≡ true
    later true a h g = absurd cc
    later false a h g = g

    alone : (t : Bool) → same_unit u x ≡ t → (t || among u xs) ≡ true → partner standing x ≡ None → (among u xs ≡ true → crosses u v ≡ false) → crosses u v ≡ false
    alone true same is none more = partner_none standing u v (ap (partner standing) (same_is u x same) ∙ none) stands facing
    alone false same is none more = more is

    by_partner : (p : Option BidUnit) → partner standing x ≡ p → (same_unit u x || among u xs) ≡ true →
        among u (units_of_pairs (pair_with x p ++ pairs (not_taken p standing) xs)) ≡ false → among v (units_of_pairs (pair_with x p ++ pairs (not_taken p standing) xs)) ≡ false → More → crosses u v ≡ false
    by_partner None none is u_left v_left more = alone (same_unit u x) refl is none (λ later. more standing later stands u_left v_left)
    by_partner (Some w) some is u_left v_left more =
        let u_parts = or_parts (same_unit u x) _ u_left in
        let v_parts = or_parts (same_unit v x) _ v_left in
        let u_rest = or_parts (same_unit u w) _ u_parts.1 in
        let v_rest = or_parts (same_unit v w) _ v_parts.1 in
        let kept : among v (not_taken (Some w) standing) ≡ true = among-filter v (λ y. not (same_unit y w)) standing ∙ rw (stands, v_rest.0) refl in
        more (not_taken (Some w) standing) (later (same_unit u x) (among u xs) u_parts.0 is) kept u_rest.1 v_rest.1

-- ---- the partner of an arriving unit

find_among : (test : BidUnit → Bool) (us : List BidUnit) (w : BidUnit) → find test us ≡ Some w → among w us ≡ true
find_among test [] w h = absurd cc
find_among test (u ∷ us) w h = by_test (test u) h (λ later. find_among test us w later)
  where
    by_test : (t : Bool) → cond t (Some u) (find test us) ≡ Some w → (find test us ≡ Some w → among w us ≡ true) → (same_unit w u || among w us) ≡ true
    by_test true found more = let is : u ≡ w = cc in subst (λ (x : BidUnit). (same_unit x u || among x us) ≡ true) is (rw (same_self u) refl)
    by_test false found more = or_right (same_unit w u) (among w us) (more found)

-- a partner stands, is faced and crosses
partner_is : (standing : List BidUnit) (u w : BidUnit) → partner standing u ≡ Some w → (among w standing ≡ true) × (faces u w ≡ true) × (crosses u w ≡ true)
partner_is standing u w h = by_best (best (filter (faces u) standing)) refl h
  where
    by_best : (found : Option BidUnit) → best (filter (faces u) standing) ≡ found → if_crossing u found ≡ Some w → (among w standing ≡ true) × (faces u w ≡ true) × (crosses u w ≡ true)
    by_best None is g = absurd cc
    by_best (Some v) is g = by_test (crosses u v) refl g
      where
        both : (among v standing ≡ true) × (faces u v ≡ true)
        both =
            and_parts (among v standing) (faces u v)
            (sym (among-filter v (faces u) standing) ∙ find_among (λ x. list_all (λ y. not (goes_before y x)) (filter (faces u) standing)) (filter (faces u) standing) v is)

        by_test : (t : Bool) → crosses u v ≡ t → cond t (Some v) None ≡ Some w → (among w standing ≡ true) × (faces u w ≡ true) × (crosses u w ≡ true)
        by_test true crossing same =
            let is_w : v ≡ w = cc in
            subst (λ (x : BidUnit). (among x standing ≡ true) × (faces u x ≡ true) × (crosses u x ≡ true)) is_w (both.0, both.1, crossing)
        by_test false crossing same = absurd cc

-- what the pairs of arriving and standing units have
pub each_pair : (P Q : BidUnit → Type 0) (R : BidUnit × BidUnit → Type 0) → ((u w : BidUnit) → Q u → P w → faces u w ≡ true → crosses u w ≡ true → R (u, w)) →
    (standing arriving : List BidUnit) → Each P standing → Each Q arriving → AllByRecursion R (pairs standing arriving)
each_pair P Q R makes standing [] h k = tt
each_pair P Q R makes standing (u ∷ us) h k = by_partner (partner standing u) refl (λ left kept. each_pair P Q R makes left us kept k.1)
  where
    by_partner : (p : Option BidUnit) → partner standing u ≡ p → ((left : List BidUnit) → Each P left → AllByRecursion R (pairs left us)) → AllByRecursion R (pair_with u p ++ pairs (not_taken p standing) us)
    by_partner None is more = more standing h
    by_partner (Some w) is more =
        let found = partner_is standing u w is in
        (makes u w k.0 (each_among P w standing h found.0) found.1 found.2, more (not_taken (Some w) standing) (each-filter P (λ x. not (same_unit x w)) standing h))

-- units that face each other are of two agents
pub faces_differ : (u w : BidUnit) → faces u w ≡ true → u.agent ≢ w.agent
faces_differ u w facing same = by_test (u.agent == w.agent) (ap (λ (n : ℕ). n == w.agent) same ∙ number_same w.agent) facing
  where
    by_test : (t : Bool) → t ≡ true → (not t && not (same_side u.buys w.buys)) ≡ true → ⊥
    by_test true is g = absurd cc
    by_test false is g = absurd cc

-- nobody trades with itself, and no price is above those of the standing units
abbrev pub IsFair : ℕ → Trade → Type 0
IsFair most trade = (trade.buyer ≢ trade.seller) × (trade.price ≤ most)

pub trades_fair : (good most : ℕ) (standing arriving : List BidUnit) → Each (λ u. u.price ≤ most) standing → AllByRecursion (IsFair most) (ticket_trades good standing arriving)
trades_fair good most standing arriving h = each (pairs standing arriving) (each_pair (λ u. u.price ≤ most) (λ u. ⊤) Between (λ u w _ le facing crossing. (faces_differ u w facing, le)) standing arriving h (all_alike (λ u. ⊤) arriving (λ u. tt)))
  where
    Between : BidUnit × BidUnit → Type 0
    Between pair = (pair.0.agent ≢ pair.1.agent) × (pair.1.price ≤ most)

    each : (matched : List (BidUnit × BidUnit)) → AllByRecursion Between matched → AllByRecursion (IsFair most) (map (pair_trade good) matched)
    each [] k = tt
    each (pair ∷ matched) k = (one pair.0.buys, each matched k.1)
      where
        one : (b : Bool) →
            IsFair most
            (cond {A = Trade} b (record { buyer = pair.0.agent; seller = pair.1.agent; good = good; units = 1; price = pair.1.price })
            (record { buyer = pair.1.agent; seller = pair.0.agent; good = good; units = 1; price = pair.1.price }))
        one true = k.0
        one false = (λ same. k.0.0 (sym same), k.0.1)
