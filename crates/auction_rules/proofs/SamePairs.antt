-- The best of the units that face an arriving one and cross it is the best of those that face it, if that one crosses: so the two
-- ways to say who trades with whom are the same.
use Rattle.std.proofs.Common.{◌≡◌, ℕ, Bool, true, false, cond, List, [], ◌∷◌, ◌++◌, refl, ap, ◌∙◌, subst, Option, Some, None, not, ◌&&◌, ◌||◌, filter, find, map, flat_map}
use Rattle.std.specs.List.{list_all}
use Rattle.std.proofs.lemmas.Bool.{and_parts, not-true}
use Rattle.auction_rules.specs.declared.units.BidUnit.{BidUnit}
use Rattle.auction_rules.specs.{same_unit, among, without, faces, goes_before, crosses, if_crossing, partner, pair_with, not_taken, pairs, pair_trade, ticket_trades, units_of_pairs, ticket_gone}
use Rattle.auction_rules.specs.TicketMatch.{partner_of, ticket_pairs}
use Rattle.auction_rules.proofs.Lists.{filter_same, all_alike}
use Rattle.auction_rules.proofs.Standing.{Each, each-weaker, among-filter, all_among_self}
use Rattle.auction_rules.proofs.Matching.{one_way, crosses_better, faces_side, each_among, each_passes}

module _ (arriving : BidUnit) (standing : List BidUnit) where
  abbrev fits : BidUnit → Bool
  fits u = faces arriving u && crosses arriving u

  -- none of the units goes before this one
  abbrev is_first : List BidUnit → BidUnit → Bool
  is_first us u = list_all (λ v. not (goes_before v u)) us

  side : (u : BidUnit) → faces arriving u ≡ true → u.buys ≡ not arriving.buys
  side u h = faces_side arriving u h

  -- one that does not cross goes before none that crosses
  later : (x v : BidUnit) → faces arriving x ≡ true → crosses arriving x ≡ true → faces arriving v ≡ true → crosses arriving v ≡ false → goes_before v x ≡ false
  later x v fx cx fv cv = by_test (goes_before v x) refl
    where
      by_test : (t : Bool) → goes_before v x ≡ t → goes_before v x ≡ false
      by_test true before =
          let after : goes_before x v ≡ false = one_way (not arriving.buys) v x (side v fv) (side x fx) before in
          let crossed : crosses arriving v ≡ true = crosses_better arriving.buys arriving x v refl (side x fx) after cx in absurd cc
      by_test false before = before

  -- so of a unit that fits, it is the same to be first of those that face and of those that fit
  first_same : (x : BidUnit) → faces arriving x ≡ true → crosses arriving x ≡ true → (us : List BidUnit) → is_first (filter (faces arriving) us) x ≡ is_first (filter fits us) x
  first_same x fx cx [] = refl
  first_same x fx cx (v ∷ us) = by_tests (faces arriving v) (crosses arriving v) refl refl (first_same x fx cx us)
    where
      by_tests : (f c : Bool) → faces arriving v ≡ f → crosses arriving v ≡ c → is_first (filter (faces arriving) us) x ≡ is_first (filter fits us) x →
          is_first (cond f (v ∷ filter (faces arriving) us) (filter (faces arriving) us)) x ≡ is_first (cond (f && c) (v ∷ filter fits us) (filter fits us)) x
      by_tests true true hf hc ih = ap (λ (b : Bool). not (goes_before v x) && b) ih
      by_tests true false hf hc ih = rw (later x v fx cx hf hc) ih
      by_tests false c hf hc ih = ih

  none_fits : (us : List BidUnit) → Each (λ w. fits w ≡ false) us → filter fits us ≡ []
  none_fits [] h = refl
  none_fits (w ∷ us) h = rw h.0 (none_fits us h.1)

  -- if the first of those that face does not cross, none does
  no_fit : (u w : BidUnit) → crosses arriving u ≡ false → is_first (filter (faces arriving) standing) u ≡ true → among w standing ≡ true → fits w ≡ false
  no_fit u w cu first stands = by_test (fits w) refl
    where
      by_test : (t : Bool) → fits w ≡ t → fits w ≡ false
      by_test true h =
          let parts = and_parts (faces arriving w) (crosses arriving w) h in
          let faced : among w (filter (faces arriving) standing) ≡ true = among-filter w (faces arriving) standing ∙ rw (stands, parts.0) refl in
          let after : not (goes_before w u) ≡ true =
          each_among (λ x. not (goes_before x u) ≡ true) w (filter (faces arriving) standing) (each_passes (λ x. not (goes_before x u)) (filter (faces arriving) standing) first) faced in
          let crossed : crosses arriving u ≡ true = crosses_better arriving.buys arriving w u refl (side w parts.0) (not-true (goes_before w u) after) parts.1 in absurd cc
      by_test false h = h

  found_same : (us : List BidUnit) → Each (λ w. among w standing ≡ true) us →
      if_crossing arriving (find (is_first (filter (faces arriving) standing)) (filter (faces arriving) us)) ≡ find (is_first (filter fits standing)) (filter fits us)
  found_same [] h = refl
  found_same (u ∷ us) h = by_tests (faces arriving u) (crosses arriving u) refl refl (found_same us h.1)
    where
      Same : List BidUnit → List BidUnit → Type 0
      Same xs ys = if_crossing arriving (find (is_first (filter (faces arriving) standing)) xs) ≡ find (is_first (filter fits standing)) ys

      crossing : (t s : Bool) → t ≡ s → crosses arriving u ≡ true → Same (filter (faces arriving) us) (filter fits us) →
          if_crossing arriving (cond t (Some u) (find (is_first (filter (faces arriving) standing)) (filter (faces arriving) us))) ≡ cond s (Some u) (find (is_first (filter fits standing)) (filter fits us))
      crossing true true e hc ih = rw hc refl
      crossing true false e hc ih = absurd cc
      crossing false true e hc ih = absurd cc
      crossing false false e hc ih = ih

      passing : (t : Bool) → is_first (filter (faces arriving) standing) u ≡ t → crosses arriving u ≡ false → Same (filter (faces arriving) us) (filter fits us) →
          if_crossing arriving (cond t (Some u) (find (is_first (filter (faces arriving) standing)) (filter (faces arriving) us))) ≡ find (is_first (filter fits standing)) (filter fits us)
      passing true first hc ih =
          let none : filter fits us ≡ [] = none_fits us (each-weaker (λ w. among w standing ≡ true) (λ w. fits w ≡ false) us (λ w k. no_fit u w hc first k) h.1) in
          rw (hc, none) refl
      passing false first hc ih = ih

      by_tests : (f c : Bool) → faces arriving u ≡ f → crosses arriving u ≡ c → Same (filter (faces arriving) us) (filter fits us) →
          Same (cond f (u ∷ filter (faces arriving) us) (filter (faces arriving) us)) (cond (f && c) (u ∷ filter fits us) (filter fits us))
      by_tests true true hf hc ih =
          crossing (is_first (filter (faces arriving) standing) u) (is_first (filter fits standing) u) (first_same u hf hc standing) hc ih
      by_tests true false hf hc ih = passing (is_first (filter (faces arriving) standing) u) refl hc ih
      by_tests false c hf hc ih = ih

  pub partner_same : partner standing arriving ≡ partner_of standing arriving
  partner_same = found_same standing (all_among_self standing)

or_false : (b : Bool) → not (b || false) ≡ not b
or_false true = refl
or_false false = refl

pub pairs_same : (standing units : List BidUnit) → ticket_pairs standing units ≡ pairs standing units
pairs_same standing [] = refl
pairs_same standing (u ∷ us) =
    subst (λ (p : Option BidUnit). elim p as (λ _. List (BidUnit × BidUnit)) [ None ↦ ticket_pairs standing us | Some taken ↦ (u, taken) ∷ ticket_pairs (without standing (taken ∷ [])) us ] ≡ pairs standing (u ∷ us))
    (partner_same u standing) (by_partner (partner standing u) (λ left. pairs_same left us))
  where
    by_partner : (p : Option BidUnit) → ((left : List BidUnit) → ticket_pairs left us ≡ pairs left us) →
        elim p as (λ _. List (BidUnit × BidUnit)) [ None ↦ ticket_pairs standing us | Some taken ↦ (u, taken) ∷ ticket_pairs (without standing (taken ∷ [])) us ] ≡ pair_with u p ++ pairs (not_taken p standing) us
    by_partner None more = more standing
    by_partner (Some v) more =
        ap (λ (matched : List (BidUnit × BidUnit)). (u, v) ∷ matched)
        (more (without standing (v ∷ []))
        ∙ ap (λ (left : List BidUnit). pairs left us) (filter_same (λ x. not (same_unit x v || false)) (λ x. not (same_unit x v)) standing (all_alike _ standing (λ x. or_false (same_unit x v)))))

pub gone_same : (standing units : List BidUnit) → flat_map (λ pair. pair.0 ∷ pair.1 ∷ []) (ticket_pairs standing units) ≡ ticket_gone standing units
gone_same standing units = ap units_of_pairs (pairs_same standing units)

pub trades_same : (good : ℕ) (standing units : List BidUnit) → map (pair_trade good) (ticket_pairs standing units) ≡ ticket_trades good standing units
trades_same good standing units = ap (λ (matched : List (BidUnit × BidUnit)). map (pair_trade good) matched) (pairs_same standing units)
