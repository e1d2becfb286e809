-- What units in order determine is what the rules say of the standing units.
use Rattle.std.proofs.Common.{◌≡◌, ℕ, zero, suc, ◌-◌, ◌<◌, ◌≤◌, Bool, true, false, cond, List, [], ◌∷◌, map, take, length, get_or, refl, sym, ap, subst, ◌∙◌, arith, inl, inr, not, ◌&&◌, ◌==◌, nat_lt, nat_le, count_by, leb-true, le-leb, lt-ltb}
use Rattle.std.specs.List.{AllByRecursion}
use Rattle.std.proofs.lemmas.Bool.Decides.{nat_tests}
use Rattle.hotel_book.specs.{Unit as ShownUnit, BidUnit, on_side, AreShown, precedes, ask, winning, ranks_first, AreRanked, AreSortedUnits, last_price, won}
use Rattle.auction_rules.proofs.Ranks.{In, count-cons, count_same, at_most_one, yes_is_one, no_is_none}
use Rattle.auction_rules.proofs.Counts.{none_pass, units_at}
use Rattle.auction_rules.proofs.Asks.{IsReached, ask_reached, enough_raises}
use Rattle.auction_rules.proofs.HotelUnits.{InOrder}
use Rattle.auction_rules.proofs.Lists.{and-true}
use Rattle.hotel_book.proofs.Sorting.{not_back, not_self}

all_in : (P : ShownUnit → Type 0) (units : List ShownUnit) → AllByRecursion P units → (u : ShownUnit) → In u units → P u
all_in P [] h u is = absurd is
all_in P (v ∷ units) h u (inl same) = subst P (sym same) h.0
all_in P (v ∷ units) h u (inr is) = all_in P units h.1 u is

-- ---- the ask

no_higher : (u v : ShownUnit) → ranks_first v u ≡ false → v.price ≤ u.price
no_higher u v h = grind (arith, nat_tests)

prices : List ShownUnit → List ℕ
prices units = map (λ u. u.price) units

-- as many units as come up to a place have its price or more
place_reached : (place : ℕ) (units : List ShownUnit) → AreSortedUnits units → place < length units → suc place ≤ count_by (λ u. nat_le (get_or (prices units) place 0) u.price) units
unfolding prices
place_reached place [] h lt = absurd (omega arith)
place_reached zero (u ∷ units) h lt =
    omega (arith, count-cons (λ v. nat_le u.price v.price) u units, yes_is_one (nat_le u.price u.price) (le-leb u.price u.price (omega arith)))
place_reached (suc place) (u ∷ units) h lt =
    let price = get_or (prices units) place 0 in
    omega (
      arith,
      count-cons (λ v. nat_le price v.price) u units,
      place_reached place units h.1 (omega arith),
      yes_is_one (nat_le price u.price) (le-leb price u.price (lower place units h.0)),
    )
  where
    lower : (i : ℕ) (others : List ShownUnit) → AllByRecursion (λ v. ranks_first v u ≡ false) others → get_or (map (λ v. v.price) others) i 0 ≤ u.price
    lower i [] k = omega arith
    lower zero (v ∷ others) k = no_higher u v k.0
    lower (suc i) (v ∷ others) k = lower i others k.1

-- a price that more units have than come before a place is no higher than the place's
place_bounds : (place : ℕ) (units : List ShownUnit) (price : ℕ) → AreSortedUnits units → suc place ≤ count_by (λ u. nat_le price u.price) units → price ≤ get_or (prices units) place 0
unfolding prices
place_bounds place [] price h many = absurd (omega arith)
place_bounds zero (u ∷ units) price h many = by_test (nat_le price u.price) refl
  where
    none : nat_le price u.price ≡ false → (v : ShownUnit) → In v units → nat_le price v.price ≡ false
    none is v in_units = let le = no_higher u v (all_in (λ w. ranks_first w u ≡ false) units h.0 v in_units) in below price u.price v.price is le
      where
        below : (l m n : ℕ) → nat_le l m ≡ false → n ≤ m → nat_le l n ≡ false
        below l m n h le = grind (arith, nat_tests)

    by_test : (b : Bool) → nat_le price u.price ≡ b → price ≤ u.price
    by_test true is = leb-true price u.price is
    by_test false is =
        absurd (omega (arith, many, count-cons (λ v. nat_le price v.price) u units, no_is_none (nat_le price u.price) is, none_pass (λ v. nat_le price v.price) units (none is)))
place_bounds (suc place) (u ∷ units) price h many =
    place_bounds place units price h.1 (omega (arith, many, count-cons (λ v. nat_le price v.price) u units, at_most_one (nat_le price u.price)))

reached_alike : (standing : List BidUnit) (units : List ShownUnit) (price : ℕ) → AreShown standing units → count_by (λ u. nat_le price u.price) units ≡ units_at standing price
reached_alike standing units price shown = shown (λ u. cond (nat_le price u.price) 1 0)

pub ask_is : (rooms : ℕ) (standing : List BidUnit) (units : List ShownUnit) → 1 ≤ rooms → AreShown standing units → AreSortedUnits units → last_price rooms units ≡ ask rooms standing
unfolding prices
ask_is rooms standing units some shown sorted = let up = no_less in let down = no_more (ask_reached rooms standing) in omega (arith, up, down)
  where
    price : ℕ
    price = last_price rooms units

    no_less : price ≤ ask rooms standing
    no_less = by_place (nat_lt (rooms - 1) (length units)) refl
      where
        past_end : (n : ℕ) (others : List ShownUnit) → nat_lt n (length others) ≡ false → get_or (map (λ u. u.price) others) n 0 ≡ 0
        past_end n [] h = refl
        past_end zero (u ∷ others) h = absurd (let le : suc (length others) ≤ 0 = grind (arith, nat_tests) in omega arith)
        past_end (suc n) (u ∷ others) h = past_end n others (let e : nat_lt n (length others) ≡ false = grind (arith, nat_tests) in e)

        by_place : (b : Bool) → nat_lt (rooms - 1) (length units) ≡ b → price ≤ ask rooms standing
        by_place true is =
            let inside : rooms - 1 < length units = grind (arith, nat_tests) in
            enough_raises rooms standing price some (omega (arith, some, reached_alike standing units price shown, place_reached (rooms - 1) units sorted inside))
        by_place false is = omega (arith, past_end (rooms - 1) units is)

    no_more : IsReached rooms standing (ask rooms standing) → ask rooms standing ≤ price
    no_more (inl none) = omega (arith, none)
    no_more (inr enough) = place_bounds (rooms - 1) units (ask rooms standing) sorted (omega (arith, some, enough, reached_alike standing units (ask rooms standing) shown))

-- ---- no two units tie

tied : BidUnit → BidUnit → Bool
tied u v = not (precedes u v) && not (precedes v u)

same_price : (u v : BidUnit) → precedes u v ≡ false → precedes v u ≡ false → u.price ≡ v.price
same_price u v h k = grind (arith, nat_tests)

same_position : (u v : BidUnit) → precedes u v ≡ false → precedes v u ≡ false → u.position ≡ v.position
same_position u v h k = grind (arith, nat_tests)

same_index : (u v : BidUnit) → precedes u v ≡ false → precedes v u ≡ false → u.index ≡ v.index
same_index u v h k = grind (arith, nat_tests)

neither : (a b : Bool) → (not a && not b) ≡ true → (a ≡ false) × (b ≡ false)
neither true b h = absurd cc
neither false true h = absurd cc
neither false false h = (refl, refl)

same_place : (v w : BidUnit) → v.price ≡ w.price → v.position ≡ w.position → v.index ≡ w.index → precedes v w ≡ false
same_place v w price position index = grind (arith, nat_tests)

tied_through : (u v w : BidUnit) → tied u v ≡ true → tied u w ≡ true → (precedes v w ≡ false → precedes w v ≡ true) → ⊥
unfolding tied
tied_through u v w h k ordered =
    let uv = neither (precedes u v) (precedes v u) h in
    let uw = neither (precedes u w) (precedes w u) k in
    let price : v.price ≡ w.price = sym (same_price u v uv.0 uv.1) ∙ same_price u w uw.0 uw.1 in
    let position : v.position ≡ w.position = sym (same_position u v uv.0 uv.1) ∙ same_position u w uw.0 uw.1 in
    let index : v.index ≡ w.index = sym (same_index u v uv.0 uv.1) ∙ same_index u w uw.0 uw.1 in
    let before = ordered (same_place v w price position index) in
    let not_before = same_place w v (sym price) (sym position) (sym index) in
    absurd cc

one_tied : (u : BidUnit) (units : List BidUnit) → InOrder units → count_by (tied u) units ≤ 1
one_tied u [] h = omega arith
one_tied u (v ∷ units) h = by_test (tied u v) refl (one_tied u units h.1)
  where
    by_test : (b : Bool) → tied u v ≡ b → count_by (tied u) units ≤ 1 → count_by (tied u) (v ∷ units) ≤ 1
    by_test true is rest =
        omega (arith, count-cons (tied u) v units, at_most_one (tied u v), none_pass (tied u) units (λ w in_units. other w in_units (tied u w) refl))
      where
        other : (w : BidUnit) → In w units → (b : Bool) → tied u w ≡ b → tied u w ≡ false
        other w in_units true both = absurd (tied_through u v w is both (h.0 w in_units))
        other w in_units false both = both
    by_test false is rest = omega (arith, count-cons (tied u) v units, no_is_none (tied u v) is, rest)

tied_units : ShownUnit → ShownUnit → Bool
tied_units u v = tied (on_side true u) (on_side true v)

all_later : (u : ShownUnit) (units : List ShownUnit) → count_by (tied_units u) units ≡ 0 → AllByRecursion (λ v. ranks_first v u ≡ false) units → AllByRecursion (λ v. ranks_first u v ≡ true) units
unfolding tied_units tied
all_later u [] none h = tt
all_later u (v ∷ units) none h =
    let split = count-cons (tied_units u) v units in
    (first (ranks_first u v) refl (omega (arith, none, split)), all_later u units (omega (arith, none, split)) h.1)
  where
    first : (b : Bool) → ranks_first u v ≡ b → cond (tied_units u v) 1 0 ≤ 0 → ranks_first u v ≡ true
    first true is le = is
    first false is le =
        let tie : tied_units u v ≡ true = rw (is, h.0) refl in
        absurd (omega (arith, yes_is_one (tied_units u v) tie, le))

strict : (units : List ShownUnit) → ((u : ShownUnit) → count_by (tied_units u) units ≤ 1) → AreSortedUnits units → AreRanked units
unfolding tied_units tied
strict [] one h = tt
strict (u ∷ units) one h = (
  all_later u units (omega (arith, one u, count-cons (tied_units u) u units, yes_is_one (tied_units u u) (itself u))) h.0,
  strict units (λ v. omega (arith, one v, count-cons (tied_units v) u units)) h.1,
)
  where
    itself : (v : ShownUnit) → tied_units v v ≡ true
    itself v = rw (not_self v) refl

pub in_order : (standing : List BidUnit) (units : List ShownUnit) → AreShown standing units → InOrder standing → AreSortedUnits units → AreRanked units
unfolding tied_units tied
in_order standing units shown ordered sorted =
    strict units (λ u. omega (arith, shown (λ v. cond (tied_units u v) 1 0), one_tied (on_side true u) standing ordered)) sorted

-- ---- the winning numbers

-- among units in order those win that are at the places below the number of rooms
winners : (rooms : ℕ) (test : ShownUnit → Bool) (units : List ShownUnit) → AreRanked units →
    count_by (λ u. test u && nat_lt (count_by (λ v. ranks_first v u) units) rooms) units ≡ count_by test (take rooms units)
winners zero test [] h = refl
winners (suc rooms) test [] h = refl
winners zero test (u ∷ units) h = none_pass _ (u ∷ units) (λ v is. nobody (test v) (count_by (λ w. ranks_first w v) (u ∷ units)))
  where
    nobody : (b : Bool) (n : ℕ) → (b && nat_lt n 0) ≡ false
    nobody true n = grind (arith, nat_tests)
    nobody false n = refl
winners (suc rooms) test (u ∷ units) h =
    count-cons (λ v. test v && nat_lt (before v) (suc rooms)) u units
    ∙ rw (first, count_same (λ v. test v && nat_lt (before v) (suc rooms)) (λ v. test v && nat_lt (count_by (λ w. ranks_first w v) units) rooms) units later, winners rooms test units h.1)
    (sym (count-cons test u (take rooms units)))
  where
    before : ShownUnit → ℕ
    before v = count_by (λ w. ranks_first w v) (u ∷ units)

    first : (test u && nat_lt (before u) (suc rooms)) ≡ test u
    first =
        let nothing : before u ≡ 0 =
        omega (
          arith,
          count-cons (λ w. ranks_first w u) u units,
          no_is_none (ranks_first u u) (not_self u),
          none_pass (λ w. ranks_first w u) units (λ w is. not_back u w (all_in (λ x. ranks_first u x ≡ true) units h.0 w is)),
        ) in
        let wins : nat_lt (before u) (suc rooms) ≡ true = rw nothing (lt-ltb 0 (suc rooms) (omega arith)) in
        rw wins (and-true (test u))

    later : (v : ShownUnit) → In v units → (test v && nat_lt (before v) (suc rooms)) ≡ (test v && nat_lt (count_by (λ w. ranks_first w v) units) rooms)
    later v is =
        let one : ◌≡◌ {A = ℕ} (cond (ranks_first u v) 1 0) 1 = yes_is_one (ranks_first u v) (all_in (λ x. ranks_first u x ≡ true) units h.0 v is) in
        ap (λ b. test v && b) (shifted (before v) (count_by (λ w. ranks_first w v) units) rooms (omega (arith, one, count-cons (λ w. ranks_first w v) u units)))
      where
        shifted : (m n k : ℕ) → m ≡ suc n → nat_lt m (suc k) ≡ nat_lt n k
        shifted m n k e = grind (arith, nat_tests)

pub winning_is : (rooms : ℕ) (standing : List BidUnit) (units : List ShownUnit) (agent : ℕ) → AreShown standing units → InOrder standing → AreSortedUnits units → won rooms units agent ≡ winning rooms standing agent
winning_is rooms standing units agent shown ordered sorted =
    sym (winners rooms (λ u. u.agent == agent) units (in_order standing units shown ordered sorted))
    ∙ (λ i. count_by (λ (u : ShownUnit). (u.agent == agent) && nat_lt (alike u i) rooms) units)
    ∙ shown (λ u. cond ((u.agent == agent) && nat_lt (count_by (λ v. precedes v (on_side true u)) standing) rooms) 1 0)
  where
    alike : (u : ShownUnit) → count_by (λ v. ranks_first v u) units ≡ count_by (λ v. precedes v (on_side true u)) standing
    alike u = shown (λ v. cond (ranks_first v u) 1 0)
