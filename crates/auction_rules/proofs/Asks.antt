-- The ask of units: the units reach it, and it is as high as the units reach.
use Rattle.std.proofs.Common.{◌≡◌, ℕ, ◌≤◌, Bool, true, false, cond, List, [], ◌∷◌, map, refl, arith, inl, inr, ◌⊎◌, nat_le, max, filter, leb-true, le-leb}
use Rattle.std.specs.List.{AllByRecursion}
use Rattle.std.proofs.lemmas.Bool.Decides.{nat_tests}
use Rattle.auction_rules.specs.declared.units.BidUnit.{BidUnit}
use Rattle.auction_rules.specs.Ask.{ask}
use Rattle.auction_rules.proofs.Lists.{all_alike}
use Rattle.auction_rules.proofs.Standing.{Each}
use Rattle.auction_rules.proofs.Quotes.{fold_keeps, max_keeps, max_reaches, prices_of}
use Rattle.auction_rules.proofs.Ranks.{In, count_le}
use Rattle.auction_rules.proofs.Counts.{none_pass, units_at}
use Rattle.auction_rules.proofs.HotelUnits.{each_in}

-- as many units as there are rooms have a price or more, or the price is 0
abbrev pub IsReached : ℕ → List BidUnit → ℕ → Type 0
IsReached rooms units price = (price ≡ 0) ⊎ (rooms ≤ units_at units price)

pub ask_reached : (rooms : ℕ) (units : List BidUnit) → IsReached rooms units (ask rooms units)
ask_reached rooms units =
    fold_keeps (IsReached rooms units) max (max_keeps (IsReached rooms units)) 0 (inl refl) (map (λ u. u.price) (filter enough units))
    (prices_of (IsReached rooms units) enough units (all_alike _ units (λ u is. inr (leb-true rooms (units_at units u.price) is))))
  where
    enough : BidUnit → Bool
    enough u = nat_le rooms (units_at units u.price)

-- ---- the lowest unit at a price or more

abbrev IsLowest : ℕ → List BidUnit → BidUnit → Type 0
IsLowest price units u = In u units × (nat_le price u.price ≡ true) × ((v : BidUnit) → In v units → nat_le price v.price ≡ true → nat_le u.price v.price ≡ true)

abbrev HasLowest : ℕ → List BidUnit → Type 0
HasLowest price units = ((u : BidUnit) × IsLowest price units u) ⊎ ((v : BidUnit) → In v units → nat_le price v.price ≡ false)

has_lowest : (price : ℕ) (units : List BidUnit) → HasLowest price units
has_lowest price [] = inr (λ v is. absurd is)
has_lowest price (x ∷ xs) = by_test (nat_le price x.price) refl (has_lowest price xs)
  where
    itself : (n : ℕ) → nat_le n n ≡ true
    itself n = grind (arith, nat_tests)

    here : nat_le price x.price ≡ true → ((v : BidUnit) → In v xs → nat_le price v.price ≡ true → nat_le x.price v.price ≡ true) → HasLowest price (x ∷ xs)
    here is least = inl (x, (inl refl, is, each))
      where
        each : (v : BidUnit) → In v (x ∷ xs) → nat_le price v.price ≡ true → nat_le x.price v.price ≡ true
        each v (inl same) reaches = rw same (itself x.price)
        each v (inr later) reaches = least v later reaches

    by_price : nat_le price x.price ≡ true → (u : BidUnit) → IsLowest price xs u → (b : Bool) → nat_le x.price u.price ≡ b → HasLowest price (x ∷ xs)
    by_price is u lowest true below = here is (λ v later reaches. through_up x.price u.price v.price below (lowest.2 v later reaches))
      where
        through_up : (l m n : ℕ) → nat_le l m ≡ true → nat_le m n ≡ true → nat_le l n ≡ true
        through_up l m n h k = grind (arith, nat_tests)
    by_price is u lowest false above = inl (u, (inr lowest.0, lowest.1, each))
      where
        swapped : (m n : ℕ) → nat_le m n ≡ false → nat_le n m ≡ true
        swapped m n h = grind (arith, nat_tests)

        each : (v : BidUnit) → In v (x ∷ xs) → nat_le price v.price ≡ true → nat_le u.price v.price ≡ true
        each v (inl same) reaches = rw same (swapped x.price u.price above)
        each v (inr later) reaches = lowest.2 v later reaches

    by_test : (b : Bool) → nat_le price x.price ≡ b → HasLowest price xs → HasLowest price (x ∷ xs)
    by_test true is (inl lowest) = by_price is lowest.0 lowest.1 (nat_le x.price lowest.0.price) refl
    by_test true is (inr none) = here is (λ v later reaches. absurd (let fails = none v later in cc))
    by_test false fails (inl lowest) = inl (lowest.0, (inr lowest.1.0, lowest.1.1, each))
      where
        each : (v : BidUnit) → In v (x ∷ xs) → nat_le price v.price ≡ true → nat_le lowest.0.price v.price ≡ true
        each v (inl same) reaches = absurd (let not_here : nat_le price v.price ≡ false = rw same fails in cc)
        each v (inr later) reaches = lowest.1.2 v later reaches
    by_test false fails (inr none) = inr each
      where
        each : (v : BidUnit) → In v (x ∷ xs) → nat_le price v.price ≡ false
        each v (inl same) = rw same fails
        each v (inr later) = none v later

-- ---- the ask is no lower than a price that is reached

passing_below : (most : ℕ) (test : BidUnit → Bool) (us : List BidUnit) → AllByRecursion (λ n. n ≤ most) (map (λ u. u.price) (filter test us)) → Each (λ u. test u ≡ true → u.price ≤ most) us
passing_below most test [] h = tt
passing_below most test (u ∷ us) h = by_test (test u) refl h (λ rest. passing_below most test us rest)
  where
    by_test : (b : Bool) → test u ≡ b → AllByRecursion (λ n. n ≤ most) (map (λ x. x.price) (cond b (u ∷ filter test us) (filter test us))) →
        (AllByRecursion (λ n. n ≤ most) (map (λ x. x.price) (filter test us)) → Each (λ x. test x ≡ true → x.price ≤ most) us) → Each (λ x. test x ≡ true → x.price ≤ most) (u ∷ us)
    by_test true is k rest = ((λ _. k.0), rest k.1)
    by_test false is k rest = ((λ passes. absurd (let fails = is in cc)), rest k)

pub enough_raises : (rooms : ℕ) (units : List BidUnit) (price : ℕ) → 1 ≤ rooms → rooms ≤ units_at units price → price ≤ ask rooms units
enough_raises rooms units price some enough = by_lowest (has_lowest price units)
  where
    passes : BidUnit → Bool
    passes u = nat_le rooms (units_at units u.price)

    by_lowest : HasLowest price units → price ≤ ask rooms units
    by_lowest (inr none) = absurd (omega (arith, none_pass (λ u. nat_le price u.price) units none))
    by_lowest (inl lowest) =
        let u = lowest.0 in
        let more : units_at units price ≤ units_at units u.price = count_le (λ v. nat_le price v.price) (λ v. nat_le u.price v.price) units lowest.1.2 in
        let high : u.price ≤ ask rooms units =
        each_in (λ v. passes v ≡ true → v.price ≤ ask rooms units) u units (passing_below (ask rooms units) passes units (max_reaches 0 (map (λ v. v.price) (filter passes units))).1) lowest.1.0
        (le-leb rooms (units_at units u.price) (omega arith)) in
        let low = leb-true price u.price lowest.1.1 in
        omega arith
