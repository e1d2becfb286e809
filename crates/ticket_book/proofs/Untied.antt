-- No two standing units have the same place, so the standing units trade alike in whatever order they are looked at.
use Rattle.std.proofs.Common.{◌≡◌, ℕ, ◌+◌, ◌≤◌, Bool, true, false, cond, List, [], ◌∷◌, ◌++◌, map, refl, sym, ap, ◌∙◌, subst, arith, Option, Some, None, inl, inr, not, ◌&&◌, ◌||◌, ◌==◌, filter, find, count_by}
use Rattle.std.specs.List.{AllByRecursion, list_all}
use Rattle.std.proofs.lemmas.Bool.{and_parts, or_right, not-true, or_left}
use Rattle.std.proofs.lemmas.Bool.Decides.{nat_tests}
use Rattle.std.proofs.lemmas.List.Sums.{sum_by-append}
use Rattle.ticket_book.specs.{Unit as ShownUnit, BidUnit, Tickets as TicketRules, Entry, is_closed, bid_units, on_side, same_unit, among, without, faces, goes_before, best, if_crossing, partner, pair_with, not_taken, pairs, units_of_pairs, ticket_gone, gone, stand, HaveSame, others, after_bid, goes_first, IsSideSorted, IsSideInOrder, SortedSides, both}
use Rattle.auction_rules.specs.BookHotels.{precedes}
use Rattle.auction_rules.proofs.Ranks.{In, count-cons, at_most_one, yes_is_one, no_is_none}
use Rattle.auction_rules.proofs.Counts.{none_pass}
use Rattle.auction_rules.proofs.Lists.{all_passing}
use Rattle.auction_rules.proofs.HotelUnits.{InOrder, bids_ordered}
use Rattle.auction_rules.proofs.Standing.{Each, same_is, same_self, among-filter, number_is}
use Rattle.auction_rules.proofs.Matching.{each_among, faces_side, each_passes, all_pass}
use Rattle.auction_rules.proofs.Shown.{sum_by-map}
use Rattle.ticket_book.proofs.Weights.{same_filter, same_append, same_back, among_alike, each_alike}

-- ---- ties

-- whether two units have the same price, position and index
abbrev pub tie : BidUnit → BidUnit → Bool
tie u v = (u.price == v.price) && ((u.position == v.position) && (u.index == v.index))

record IsTie (u v : BidUnit) : Type 0 where
  price : u.price ≡ v.price
  position : u.position ≡ v.position
  index : u.index ≡ v.index

tie_is : (u v : BidUnit) → tie u v ≡ true → IsTie u v
tie_is u v h =
    let one = and_parts (u.price == v.price) _ h in
    let two = and_parts (u.position == v.position) (u.index == v.index) one.1 in
    record { price = number_is u.price v.price one.0; position = number_is u.position v.position two.0; index = number_is u.index v.index two.1 }

is_tie : (u v : BidUnit) → IsTie u v → tie u v ≡ true
is_tie u v h = let price = h.price in let position = h.position in let index = h.index in grind (arith, nat_tests)

tie_back : (u v : BidUnit) → tie u v ≡ true → tie v u ≡ true
tie_back u v h = let is = tie_is u v h in is_tie v u (record { price = sym is.price; position = sym is.position; index = sym is.index })

tie_both : (u v w : BidUnit) → tie u v ≡ true → tie u w ≡ true → tie v w ≡ true
tie_both u v w h k =
    let one = tie_is u v h in
    let two = tie_is u w k in
    is_tie v w (record { price = sym one.price ∙ two.price; position = sym one.position ∙ two.position; index = sym one.index ∙ two.index })

tied_not_before : (u v : BidUnit) → IsTie u v → precedes u v ≡ false
tied_not_before u v h = let price = h.price in let position = h.position in let index = h.index in grind (arith, nat_tests)

no_tie : (u v : BidUnit) → tie u v ≡ true → (precedes u v ≡ false → precedes v u ≡ true) → ⊥
no_tie u v h ordered =
    let is = tie_is u v h in
    let before = ordered (tied_not_before u v is) in
    let not_before = tied_not_before v u (record { price = sym is.price; position = sym is.position; index = sym is.index }) in
    absurd cc

in_among : (u : BidUnit) (us : List BidUnit) → among u us ≡ true → In u us
in_among u [] is = absurd cc
in_among u (v ∷ us) is = by_test (same_unit u v) refl is (in_among u us)
  where
    by_test : (b : Bool) → same_unit u v ≡ b → (b || among u us) ≡ true → (among u us ≡ true → In u us) → In u (v ∷ us)
    by_test true same found later = inl (same_is u v same)
    by_test false same found later = inr (later found)

-- two units that tie are the same
abbrev pub AreUntied : List BidUnit → Type 0
AreUntied units = (u v : BidUnit) → among u units ≡ true → among v units ≡ true → tie u v ≡ true → u ≡ v

untied_order : (us : List BidUnit) → InOrder us → AreUntied us
untied_order [] h u v is_u is_v tied = absurd cc
untied_order (x ∷ us) h u v is_u is_v tied = by_tests (same_unit u x) (same_unit v x) refl refl is_u is_v (λ in_u in_v. untied_order us h.1 u v in_u in_v tied)
  where
    by_tests : (s t : Bool) → same_unit u x ≡ s → same_unit v x ≡ t → (s || among u us) ≡ true → (t || among v us) ≡ true → (among u us ≡ true → among v us ≡ true → u ≡ v) → u ≡ v
    by_tests true true s t in_u in_v later = same_is u x s ∙ sym (same_is v x t)
    by_tests true false s t in_u in_v later = absurd (no_tie x v (subst (λ (w : BidUnit). tie w v ≡ true) (same_is u x s) tied) (h.0 v (in_among v us in_v)))
    by_tests false true s t in_u in_v later = absurd (no_tie x u (subst (λ (w : BidUnit). tie w u ≡ true) (same_is v x t) (tie_back u v tied)) (h.0 u (in_among u us in_u)))
    by_tests false false s t in_u in_v later = later in_u in_v

one_tied : (u : BidUnit) (us : List BidUnit) → InOrder us → count_by (tie u) us ≤ 1
one_tied u [] h = omega arith
one_tied u (v ∷ us) h = by_test (tie u v) refl (one_tied u us h.1)
  where
    by_test : (b : Bool) → tie u v ≡ b → count_by (tie u) us ≤ 1 → count_by (tie u) (v ∷ us) ≤ 1
    by_test true is rest = omega (arith, count-cons (tie u) v us, at_most_one (tie u v), none_pass (tie u) us (λ w in_us. other w in_us (tie u w) refl))
      where
        other : (w : BidUnit) → In w us → (b : Bool) → tie u w ≡ b → tie u w ≡ false
        other w in_us true both = absurd (no_tie v w (tie_both u v w is both) (h.0 w in_us))
        other w in_us false both = both
    by_test false is rest = omega (arith, count-cons (tie u) v us, no_is_none (tie u v) is, rest)

-- ---- what stands

in-filter : (test : BidUnit → Bool) (u : BidUnit) (us : List BidUnit) → In u (filter test us) → In u us
in-filter test u [] is = is
in-filter test u (v ∷ us) is = by_test (test v) is (in-filter test u us)
  where
    keep : In u (v ∷ filter test us) → (In u (filter test us) → In u us) → In u (v ∷ us)
    keep (inl same) later = inl same
    keep (inr is) later = inr (later is)

    by_test : (b : Bool) → In u (cond b (v ∷ filter test us) (filter test us)) → (In u (filter test us) → In u us) → In u (v ∷ us)
    by_test true h later = keep h later
    by_test false h later = inr (later h)

order-filter : (test : BidUnit → Bool) (us : List BidUnit) → InOrder us → InOrder (filter test us)
order-filter test [] h = h
order-filter test (u ∷ us) h = by_test (test u) (order-filter test us h.1)
  where
    by_test : (b : Bool) → InOrder (filter test us) → InOrder (cond b (u ∷ filter test us) (filter test us))
    by_test true rest = ((λ v is. h.0 v (in-filter test v us is)), rest)
    by_test false rest = rest

stand_ordered : (past : List Entry) → InOrder (stand TicketRules past)
stand_ordered past = by_test (is_closed past)
  where
    by_test : (b : Bool) → InOrder (cond b [] (without (bid_units past) (gone TicketRules past)))
    by_test true = tt
    by_test false = order-filter (λ u. not (among u (gone TicketRules past))) (bid_units past) (bids_ordered past)

pub stand_untied : (past : List Entry) (units : List BidUnit) → HaveSame units (stand TicketRules past) → AreUntied units
stand_untied past units same = λ u v is_u is_v.
    untied_order (stand TicketRules past) (stand_ordered past) u v (sym (among_alike u units (stand TicketRules past) same) ∙ is_u) (sym (among_alike v units (stand TicketRules past) same) ∙ is_v)

-- ---- a side in order

abbrev tied_shown : Bool → ShownUnit → ShownUnit → Bool
tied_shown buys u v = tie (on_side buys u) (on_side buys v)

later_or_tied : (buys : Bool) (u v : ShownUnit) → goes_first buys v u ≡ false → tied_shown buys u v ≡ false → goes_first buys u v ≡ true
later_or_tied true u v h k = grind (arith, nat_tests)
later_or_tied false u v h k = grind (arith, nat_tests)

all_later : (buys : Bool) (u : ShownUnit) (units : List ShownUnit) → count_by (tied_shown buys u) units ≡ 0 → AllByRecursion (λ v. goes_first buys v u ≡ false) units → AllByRecursion (λ v. goes_first buys u v ≡ true) units
all_later buys u [] none h = tt
all_later buys u (v ∷ units) none h =
    let split = count-cons (tied_shown buys u) v units in
    (by_test (tied_shown buys u v) refl (omega (arith, none, split)), all_later buys u units (omega (arith, none, split)) h.1)
  where
    by_test : (b : Bool) → tied_shown buys u v ≡ b → cond (tied_shown buys u v) 1 0 ≤ 0 → goes_first buys u v ≡ true
    by_test true is le = absurd (omega (arith, yes_is_one (tied_shown buys u v) is, le))
    by_test false is le = later_or_tied buys u v h.0 is

strict : (buys : Bool) (units : List ShownUnit) → ((u : ShownUnit) → count_by (tied_shown buys u) units ≤ 1) → IsSideSorted buys units → IsSideInOrder buys units
strict buys [] one h = tt
strict buys (u ∷ units) one h = (
  all_later buys u units (omega (arith, one u, count-cons (tied_shown buys u) u units, yes_is_one (tied_shown buys u u) (itself buys u))) h.0,
  strict buys units (λ v. omega (arith, one v, count-cons (tied_shown buys v) u units)) h.1,
)
  where
    itself : (b : Bool) (v : ShownUnit) → tied_shown b v v ≡ true
    itself b v = is_tie (on_side b v) (on_side b v) (record { price = refl; position = refl; index = refl })

few_tied : (buys : Bool) (u : ShownUnit) (units : List ShownUnit) → count_by (tied_shown buys u) units ≡ count_by (tie (on_side buys u)) (map (on_side buys) units)
few_tied buys u units = sym (sum_by-map (on_side buys) (λ v. cond (tie (on_side buys u) v) 1 0) units)

module _ (past : List Entry) (sides : SortedSides) (same : HaveSame (both sides) (stand TicketRules past)) where
  few_in_all : (u : BidUnit) → count_by (tie u) (map (on_side true) sides.buys) + count_by (tie u) (map (on_side false) sides.sells) ≤ 1
  few_in_all u =
      omega (
        arith,
        one_tied u (stand TicketRules past) (stand_ordered past),
        same (λ v. cond (tie u v) 1 0),
        sum_by-append (λ v. cond (tie u v) 1 0) (map (on_side true) sides.buys) (map (on_side false) sides.sells),
      )

  pub buys_in_order : IsSideSorted true sides.buys → IsSideInOrder true sides.buys
  buys_in_order sorted = strict true sides.buys (λ u. omega (arith, few_in_all (on_side true u), few_tied true u sides.buys)) sorted

  pub sells_in_order : IsSideSorted false sides.sells → IsSideInOrder false sides.sells
  sells_in_order sorted = strict false sides.sells (λ u. omega (arith, few_in_all (on_side false u), few_tied false u sides.sells)) sorted

-- ---- the same units trade alike

neither_first : (b : Bool) (u v : BidUnit) → u.buys ≡ b → v.buys ≡ b → goes_before u v ≡ false → goes_before v u ≡ false → tie u v ≡ true
neither_first true u v hu hv h k = grind (arith, nat_tests)
neither_first false u v hu hv h k = grind (arith, nat_tests)

found_among : (test : BidUnit → Bool) (w : BidUnit) (us : List BidUnit) → find test us ≡ Some w → among w us ≡ true
found_among test w [] is = absurd cc
found_among test w (u ∷ us) is = by_test (test u) is (found_among test w us)
  where
    by_test : (b : Bool) → cond b (Some u) (find test us) ≡ Some w → (find test us ≡ Some w → among w us ≡ true) → among w (u ∷ us) ≡ true
    by_test true found later = let same : u ≡ w = cc in or_left (same_unit w u) (among w us) (subst (λ (v : BidUnit). same_unit v u ≡ true) same (same_self u))
    by_test false found later = or_right (same_unit w u) (among w us) (later found)

find_passes : (test : BidUnit → Bool) (w : BidUnit) (us : List BidUnit) → find test us ≡ Some w → test w ≡ true
find_passes test w [] is = absurd cc
find_passes test w (u ∷ us) is = by_test (test u) refl is (find_passes test w us)
  where
    by_test : (b : Bool) → test u ≡ b → cond b (Some u) (find test us) ≡ Some w → (find test us ≡ Some w → test w ≡ true) → test w ≡ true
    by_test true passes found later = let same : u ≡ w = cc in subst (λ (v : BidUnit). test v ≡ true) same passes
    by_test false passes found later = later found

-- the only unit that passes is found
find_only : (test : BidUnit → Bool) (w : BidUnit) (us : List BidUnit) → among w us ≡ true → test w ≡ true → ((u : BidUnit) → among u us ≡ true → test u ≡ true → u ≡ w) → find test us ≡ Some w
find_only test w [] is passes only = absurd cc
find_only test w (u ∷ us) is passes only = by_test (test u) refl (find_only test w us)
  where
    later : (v : BidUnit) → among v us ≡ true → (same_unit v u || among v us) ≡ true
    later v h = or_right (same_unit v u) (among v us) h

    here : (b : Bool) → same_unit w u ≡ b → test u ≡ false → (b || among w us) ≡ true → among w us ≡ true
    here true same fails found = absurd (let passing : test u ≡ true = subst (λ (v : BidUnit). test v ≡ true) (same_is w u same) passes in cc)
    here false same fails found = found

    by_test : (b : Bool) → test u ≡ b → (among w us ≡ true → test w ≡ true → ((v : BidUnit) → among v us ≡ true → test v ≡ true → v ≡ w) → find test us ≡ Some w) →
        cond b (Some u) (find test us) ≡ Some w
    by_test true passing more = ap (λ (v : BidUnit). Some v) (only u (or_left (same_unit u u) (among u us) (same_self u)) passing)
    by_test false failing more = more (here (same_unit w u) refl failing is) passes (λ v h. only v (later v h))

-- the best of some units is the best of the same units in another order
best_carries : (b : Bool) (w : BidUnit) (xs ys : List BidUnit) → HaveSame xs ys → AreUntied xs → Each (λ u. u.buys ≡ b) xs → best ys ≡ Some w → best xs ≡ Some w
best_carries b w xs ys same untied sides is = find_only (none_first xs) w xs inside passes only
  where
    none_first : List BidUnit → BidUnit → Bool
    none_first us u = list_all (λ v. not (goes_before v u)) us

    inside : among w xs ≡ true
    inside = among_alike w xs ys same ∙ found_among (none_first ys) w ys is

    passes : none_first xs w ≡ true
    passes =
        all_pass (λ v. not (goes_before v w)) xs
        (each_alike (λ v. not (goes_before v w) ≡ true) xs ys same (each_passes (λ v. not (goes_before v w)) ys (find_passes (none_first ys) w ys is)))

    not_before : (u v : BidUnit) → none_first xs u ≡ true → among v xs ≡ true → goes_before v u ≡ false
    not_before u v first among_v = not-true (goes_before v u) (each_among (λ x. not (goes_before x u) ≡ true) v xs (each_passes (λ x. not (goes_before x u)) xs first) among_v)

    only : (u : BidUnit) → among u xs ≡ true → none_first xs u ≡ true → u ≡ w
    only u is_u first =
        untied u w is_u inside
        (neither_first b u w (each_among (λ v. v.buys ≡ b) u xs sides is_u) (each_among (λ v. v.buys ≡ b) w xs sides inside) (not_before w u passes is_u) (not_before u w first inside))

pub untied_alike : (xs ys : List BidUnit) → HaveSame ys xs → AreUntied xs → AreUntied ys
untied_alike xs ys same untied = λ u v is_u is_v. untied u v (sym (among_alike u ys xs same) ∙ is_u) (sym (among_alike v ys xs same) ∙ is_v)

best_alike : (b : Bool) (xs ys : List BidUnit) → HaveSame xs ys → AreUntied xs → Each (λ u. u.buys ≡ b) xs → best xs ≡ best ys
best_alike b xs ys same untied sides = by_best (best xs) (best ys) refl refl
  where
    by_best : (p q : Option BidUnit) → best xs ≡ p → best ys ≡ q → p ≡ q
    by_best p (Some w) is_p is_q = sym is_p ∙ best_carries b w xs ys same untied sides is_q
    by_best None None is_p is_q = refl
    by_best (Some w) None is_p is_q =
        sym (sym is_q ∙ best_carries b w ys xs (same_back xs ys same) (untied_alike xs ys (same_back xs ys same) untied) (each_alike (λ u. u.buys ≡ b) ys xs (same_back xs ys same) sides) is_p)

untied_filter : (test : BidUnit → Bool) (us : List BidUnit) → AreUntied us → AreUntied (filter test us)
untied_filter test us untied = λ u v is_u is_v.
    untied u v ((and_parts (among u us) (test u) (sym (among-filter u test us) ∙ is_u)).0) ((and_parts (among v us) (test v) (sym (among-filter v test us) ∙ is_v)).0)

partner_alike : (u : BidUnit) (xs ys : List BidUnit) → HaveSame xs ys → AreUntied xs → partner xs u ≡ partner ys u
partner_alike u xs ys same untied =
    ap (if_crossing u)
    (best_alike (not u.buys) (filter (faces u) xs) (filter (faces u) ys) (same_filter (faces u) xs ys same) (untied_filter (faces u) xs untied)
    (all_passing (λ v. v.buys ≡ not u.buys) (faces u) xs (λ v h. side v h)))
  where
    side : (v : BidUnit) → faces u v ≡ true → v.buys ≡ not u.buys
    side v h = faces_side u v h

taken_same : (taken : Option BidUnit) (xs ys : List BidUnit) → HaveSame xs ys → HaveSame (not_taken taken xs) (not_taken taken ys)
taken_same None xs ys same = same
taken_same (Some v) xs ys same = same_filter (λ u. not (same_unit u v)) xs ys same

taken_untied : (taken : Option BidUnit) (xs : List BidUnit) → AreUntied xs → AreUntied (not_taken taken xs)
taken_untied None xs untied = untied
taken_untied (Some v) xs untied = untied_filter (λ u. not (same_unit u v)) xs untied

pub pairs_alike : (arriving xs ys : List BidUnit) → HaveSame xs ys → AreUntied xs → pairs xs arriving ≡ pairs ys arriving
pairs_alike [] xs ys same untied = refl
pairs_alike (u ∷ arriving) xs ys same untied =
    ap (λ (p : Option BidUnit). pair_with u p ++ pairs (not_taken p xs) arriving) (partner_alike u xs ys same untied)
    ∙ ap (λ (more : List (BidUnit × BidUnit)). pair_with u (partner ys u) ++ more)
    (pairs_alike arriving (not_taken (partner ys u) xs) (not_taken (partner ys u) ys) (taken_same (partner ys u) xs ys same) (taken_untied (partner ys u) xs untied))

pub after_alike : (agent : ℕ) (new xs ys : List BidUnit) → HaveSame xs ys → AreUntied xs → HaveSame (after_bid xs agent new) (after_bid ys agent new)
after_alike agent new xs ys same untied =
    subst (λ (away : List BidUnit). HaveSame (after_bid xs agent new) (others agent (without ys away) ++ without new away)) (ap units_of_pairs (pairs_alike new xs ys same untied))
    (same_append (others agent (without xs (ticket_gone xs new))) (others agent (without ys (ticket_gone xs new))) (without new (ticket_gone xs new)) (without new (ticket_gone xs new))
    (same_filter (λ u. not (u.agent == agent)) (without xs (ticket_gone xs new)) (without ys (ticket_gone xs new)) (same_filter (λ u. not (among u (ticket_gone xs new))) xs ys same))
    (λ weight. refl))
