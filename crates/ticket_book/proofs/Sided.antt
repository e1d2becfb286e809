-- What the two sides of a ticket auction show of all their units.
use Rattle.std.proofs.Common.{◌≡◌, ℕ, ◌+◌, ◌≤◌, Bool, true, false, cond, not, List, [], ◌∷◌, ◌++◌, map, get_or, refl, sym, ap, ◌∙◌, arith, Option, Some, None, append-nil, ◌||◌, ◌==◌, max, min, filter, find, fold, sum_by, insert}
use Rattle.std.specs.List.{AllByRecursion, list_all, list_any}
use Rattle.std.proofs.lemmas.List.Elements.{filter-append}
use Rattle.std.proofs.lemmas.List.Folds.{list_any-append}
use Rattle.std.proofs.lemmas.List.Sums.{sum_by-cons, sum_by-append, sum_by-insert}
use Rattle.std.proofs.lemmas.Bool.Decides.{nat_tests}
use Rattle.std.proofs.lemmas.Bool.{and_right}
use Rattle.ticket_book.specs.{Unit as ShownUnit, BidUnit, shown_unit, on_side, same_unit, among, faces, goes_before, best, not_taken, lowest, highest_buy, lowest_sell, goes_first, IsSideSorted, is_same, SortedSides, both, of_side, others}
use Rattle.auction_rules.proofs.Lists.{filter-map, filter_same, filter_all, all_alike, and-true, all-weaker}
use Rattle.auction_rules.proofs.Shown.{sum_by-map}
use Rattle.ticket_book.proofs.Sorting.{not_self, sorted_filter}

abbrev pub sides_of : List ShownUnit → List ShownUnit → SortedSides
sides_of buys sells = record { buys = buys; sells = sells }

none_pass : {A : Type 0} (test : A → Bool) (xs : List A) → ((x : A) → test x ≡ false) → filter test xs ≡ []
none_pass test [] h = refl
none_pass test (x ∷ xs) h = rw (h x) (none_pass test xs h)

all_pass : {A : Type 0} (test : A → Bool) (xs : List A) → ((x : A) → test x ≡ true) → filter test xs ≡ xs
all_pass test xs h = filter_all test xs (all_alike (λ x. test x ≡ true) xs h)

-- ---- the front of the other side

-- a unit of a side, if there is one
abbrev pub maybe_on : Bool → Option ShownUnit → Option BidUnit
maybe_on buys None = None
maybe_on buys (Some u) = Some (on_side buys u)

first : {A : Type 0} → List A → Option A
first [] = None
first (x ∷ xs) = Some x

found_first : {A : Type 0} (test : A → Bool) (xs : List A) → find test xs ≡ first (filter test xs)
unfolding first
found_first test [] = refl
found_first test (x ∷ xs) = by_test (test x) (found_first test xs)
  where
    by_test : (b : Bool) → find test xs ≡ first (filter test xs) → cond b (Some x) (find test xs) ≡ first (cond b (x ∷ filter test xs) (filter test xs))
    by_test true ih = refl
    by_test false ih = ih

none_before : (buys : Bool) (u : ShownUnit) (units : List ShownUnit) → AllByRecursion (λ v. goes_first buys v u ≡ false) units → list_all (λ v. not (goes_before v (on_side buys u))) (map (on_side buys) units) ≡ true
none_before buys u [] h = refl
none_before buys u (v ∷ units) h = rw (h.0, none_before buys u units h.1) refl

best_is_first : (buys : Bool) (units : List ShownUnit) → IsSideSorted buys units → best (map (on_side buys) units) ≡ maybe_on buys (first units)
unfolding first
best_is_first buys [] h = refl
best_is_first buys (u ∷ units) h = rw (not_self buys u, none_before buys u units h.0) refl

-- the units of the two sides that a unit faces
faces_own : (buys : Bool) (u : BidUnit) (v : ShownUnit) → u.buys ≡ buys → faces u (on_side buys v) ≡ false
faces_own true u v is = rw is (and_right (not (u.agent == v.agent)) false refl)
faces_own false u v is = rw is (and_right (not (u.agent == v.agent)) false refl)

faces_other : (buys : Bool) (u : BidUnit) (v : ShownUnit) → u.buys ≡ not buys → faces u (on_side buys v) ≡ not (u.agent == v.agent)
faces_other true u v is = rw is (and-true (not (u.agent == v.agent)))
faces_other false u v is = rw is (and-true (not (u.agent == v.agent)))

faced_own : (buys : Bool) (u : BidUnit) (units : List ShownUnit) → u.buys ≡ buys → filter (faces u) (map (on_side buys) units) ≡ []
faced_own buys u units is = filter-map (faces u) (on_side buys) units ∙ ap (map (on_side buys)) (none_pass (λ v. faces u (on_side buys v)) units (λ v. faces_own buys u v is))

faced_other : (buys : Bool) (u : BidUnit) (units : List ShownUnit) → u.buys ≡ not buys → filter (faces u) (map (on_side buys) units) ≡ map (on_side buys) (filter (λ v. not (u.agent == v.agent)) units)
faced_other buys u units is =
    filter-map (faces u) (on_side buys) units
    ∙ ap (map (on_side buys)) (filter_same (λ v. faces u (on_side buys v)) (λ v. not (u.agent == v.agent)) units (all_alike (λ v. faces u (on_side buys v) ≡ not (u.agent == v.agent)) units (λ v. faces_other buys u v is)))

faced : (buys : Bool) (u : BidUnit) (sides : SortedSides) → u.buys ≡ not buys → filter (faces u) (both sides) ≡ map (on_side buys) (filter (λ v. not (u.agent == v.agent)) (of_side sides buys))
faced true u sides is =
    filter-append (faces u) (map (on_side true) sides.buys) (map (on_side false) sides.sells)
    ∙ rw (faced_other true u sides.buys is, faced_own false u sides.sells is) (append-nil _)
faced false u sides is =
    filter-append (faces u) (map (on_side true) sides.buys) (map (on_side false) sides.sells)
    ∙ rw (faced_own true u sides.buys is, faced_other false u sides.sells is) refl

-- the best of them is the first of another agent
front_is : (buys : Bool) (u : BidUnit) (sides : SortedSides) (front : Option ShownUnit) → u.buys ≡ not buys → IsSideSorted buys (of_side sides buys) →
    front ≡ find (λ v. not (u.agent == v.agent)) (of_side sides buys) → maybe_on buys front ≡ best (filter (faces u) (both sides))
front_is buys u sides front is sorted found =
    ap (maybe_on buys) (found ∙ found_first other (of_side sides buys))
    ∙ sym (best_is_first buys (filter other (of_side sides buys)) (sorted_filter buys other (of_side sides buys) sorted))
    ∙ sym (ap best (faced buys u sides is))
  where
    other : ShownUnit → Bool
    other v = not (u.agent == v.agent)

twice : (b : Bool) → b ≡ not (not b)
twice true = refl
twice false = refl

pub front_by : (u : BidUnit) (sides : SortedSides) (side : List ShownUnit) (number : ℕ) (front : Option ShownUnit) → side ≡ of_side sides (not u.buys) → number ≡ u.agent → IsSideSorted (not u.buys) (of_side sides (not u.buys)) →
    front ≡ find (λ v. not (number == v.agent)) side → maybe_on (not u.buys) front ≡ best (filter (faces u) (both sides))
front_by u sides side number front side_is number_is sorted found =
    front_is (not u.buys) u sides front (twice u.buys) sorted
    (found ∙ ap (λ (us : List ShownUnit). find (λ v. not (number == v.agent)) us) side_is ∙ ap (λ (n : ℕ). find (λ v. not (n == v.agent)) (of_side sides (not u.buys))) number_is)

-- ---- a unit among them

any-map : {A B : Type 0} (test : B → Bool) (f : A → B) (xs : List A) → list_any test (map f xs) ≡ list_any (λ x. test (f x)) xs
any-map test f [] = refl
any-map test f (x ∷ xs) = ap (λ (b : Bool). test (f x) || b) (any-map test f xs)

any_same : {A : Type 0} (p q : A → Bool) (xs : List A) → ((x : A) → p x ≡ q x) → list_any p xs ≡ list_any q xs
any_same p q [] h = refl
any_same p q (x ∷ xs) h = rw (h x, any_same p q xs h) refl

no_any : {A : Type 0} (p : A → Bool) (xs : List A) → ((x : A) → p x ≡ false) → list_any p xs ≡ false
no_any p [] h = refl
no_any p (x ∷ xs) h = rw (h x) (no_any p xs h)

or_no : (b : Bool) → (b || false) ≡ b
or_no true = refl
or_no false = refl

same_own : (buys : Bool) (u : BidUnit) (v : ShownUnit) → u.buys ≡ buys → same_unit u (on_side buys v) ≡ is_same (shown_unit u) v
same_own true u v is = rw is refl
same_own false u v is = rw is refl

same_other : (buys : Bool) (u : BidUnit) (v : ShownUnit) → u.buys ≡ not buys → same_unit u (on_side buys v) ≡ false
same_other true u v is = rw is (and_right (u.agent == v.agent) false refl)
same_other false u v is = rw is (and_right (u.agent == v.agent) false refl)

among_own : (buys : Bool) (u : BidUnit) (units : List ShownUnit) → u.buys ≡ buys → among u (map (on_side buys) units) ≡ list_any (is_same (shown_unit u)) units
among_own buys u units is = any-map (same_unit u) (on_side buys) units ∙ any_same (λ v. same_unit u (on_side buys v)) (is_same (shown_unit u)) units (λ v. same_own buys u v is)

among_other : (buys : Bool) (u : BidUnit) (units : List ShownUnit) → u.buys ≡ not buys → among u (map (on_side buys) units) ≡ false
among_other buys u units is = any-map (same_unit u) (on_side buys) units ∙ no_any (λ v. same_unit u (on_side buys v)) units (λ v. same_other buys u v is)

pub contains_is : (buys : Bool) (u : BidUnit) (sides : SortedSides) → u.buys ≡ buys → list_any (is_same (shown_unit u)) (of_side sides buys) ≡ among u (both sides)
contains_is true u sides is =
    sym (list_any-append (same_unit u) (map (on_side true) sides.buys) (map (on_side false) sides.sells)
    ∙ rw (among_own true u sides.buys is, among_other false u sides.sells is) (or_no (list_any (is_same (shown_unit u)) sides.buys)))
contains_is false u sides is =
    sym (list_any-append (same_unit u) (map (on_side true) sides.buys) (map (on_side false) sides.sells)
    ∙ rw (among_other true u sides.buys is, among_own false u sides.sells is) refl)

pub has_units_is : (agent : ℕ) (buys sells : List ShownUnit) → (list_any (λ u. u.agent == agent) buys || list_any (λ u. u.agent == agent) sells) ≡ list_any (λ u. u.agent == agent) (both (sides_of buys sells))
has_units_is agent buys sells =
    sym (list_any-append (λ u. u.agent == agent) (map (on_side true) buys) (map (on_side false) sells)
    ∙ rw (any-map (λ u. u.agent == agent) (on_side true) buys, any-map (λ u. u.agent == agent) (on_side false) sells) refl)

-- ---- units that are taken out

taken_own : (buys : Bool) (u : BidUnit) (units : List ShownUnit) → u.buys ≡ buys → filter (λ v. not (same_unit v u)) (map (on_side buys) units) ≡ map (on_side buys) (filter (λ v. not (is_same v (shown_unit u))) units)
taken_own buys u units is =
    filter-map (λ v. not (same_unit v u)) (on_side buys) units
    ∙ ap (map (on_side buys)) (filter_same (λ v. not (same_unit (on_side buys v) u)) (λ v. not (is_same v (shown_unit u))) units
    (all_alike (λ v. not (same_unit (on_side buys v) u) ≡ not (is_same v (shown_unit u))) units (λ v. one buys v is)))
  where
    one : (b : Bool) (v : ShownUnit) → u.buys ≡ b → not (same_unit (on_side b v) u) ≡ not (is_same v (shown_unit u))
    one true v is = rw is refl
    one false v is = rw is refl

taken_other : (buys : Bool) (u : BidUnit) (units : List ShownUnit) → u.buys ≡ not buys → filter (λ v. not (same_unit v u)) (map (on_side buys) units) ≡ map (on_side buys) units
taken_other buys u units is =
    filter-map (λ v. not (same_unit v u)) (on_side buys) units
    ∙ ap (map (on_side buys)) (all_pass (λ v. not (same_unit (on_side buys v) u)) units (λ v. one buys v is))
  where
    one : (b : Bool) (v : ShownUnit) → u.buys ≡ not b → not (same_unit (on_side b v) u) ≡ true
    one true v is = rw is (ap not (and_right (v.agent == u.agent) false refl))
    one false v is = rw is (ap not (and_right (v.agent == u.agent) false refl))

pub buy_taken : (u : BidUnit) (buys sells : List ShownUnit) → u.buys ≡ true → both (sides_of (filter (λ v. not (is_same v (shown_unit u))) buys) sells) ≡ not_taken (Some u) (both (sides_of buys sells))
buy_taken u buys sells is =
    sym (filter-append (λ v. not (same_unit v u)) (map (on_side true) buys) (map (on_side false) sells) ∙ rw (taken_own true u buys is, taken_other false u sells is) refl)

pub sell_taken : (u : BidUnit) (buys sells : List ShownUnit) → u.buys ≡ false → both (sides_of buys (filter (λ v. not (is_same v (shown_unit u))) sells)) ≡ not_taken (Some u) (both (sides_of buys sells))
sell_taken u buys sells is =
    sym (filter-append (λ v. not (same_unit v u)) (map (on_side true) buys) (map (on_side false) sells) ∙ rw (taken_other true u buys is, taken_own false u sells is) refl)

pub others_taken : (agent : ℕ) (buys sells : List ShownUnit) → both (sides_of (filter (λ u. not (u.agent == agent)) buys) (filter (λ u. not (u.agent == agent)) sells)) ≡ others agent (both (sides_of buys sells))
others_taken agent buys sells =
    sym (filter-append (λ u. not (u.agent == agent)) (map (on_side true) buys) (map (on_side false) sells)
    ∙ rw (filter-map (λ u. not (u.agent == agent)) (on_side true) buys, filter-map (λ u. not (u.agent == agent)) (on_side false) sells) refl)

-- ---- a unit that is put in

side_put : (buys : Bool) (weight : BidUnit → ℕ) (i : ℕ) (u : BidUnit) (units : List ShownUnit) → u.buys ≡ buys → sum_by weight (map (on_side buys) (insert units i (shown_unit u))) ≡ weight u + sum_by weight (map (on_side buys) units)
side_put buys weight i u units is =
    let all = sum_by-map (on_side buys) weight (insert units i (shown_unit u)) in let old = sum_by-map (on_side buys) weight units in
    omega (arith, all, sum_by-insert (λ v. weight (on_side buys v)) units i (shown_unit u), ap weight itself, old)
  where
    itself : on_side buys (shown_unit u) ≡ u
    itself = λ j. record { agent = u.agent; buys = sym is j; price = u.price; position = u.position; index = u.index }

pub buy_put : (weight : BidUnit → ℕ) (i : ℕ) (u : BidUnit) (buys sells : List ShownUnit) → u.buys ≡ true → sum_by weight (both (sides_of (insert buys i (shown_unit u)) sells)) ≡ sum_by weight (both (sides_of buys sells) ++ u ∷ [])
buy_put weight i u buys sells is =
    omega (
      arith,
      sum_by-append weight (map (on_side true) (insert buys i (shown_unit u))) (map (on_side false) sells),
      side_put true weight i u buys is,
      sum_by-append weight (map (on_side true) buys) (map (on_side false) sells),
      sum_by-append weight (both (sides_of buys sells)) (u ∷ []),
      sum_by-cons weight u [],
    )

pub sell_put : (weight : BidUnit → ℕ) (i : ℕ) (u : BidUnit) (buys sells : List ShownUnit) → u.buys ≡ false → sum_by weight (both (sides_of buys (insert sells i (shown_unit u)))) ≡ sum_by weight (both (sides_of buys sells) ++ u ∷ [])
sell_put weight i u buys sells is =
    omega (
      arith,
      sum_by-append weight (map (on_side true) buys) (map (on_side false) (insert sells i (shown_unit u))),
      side_put false weight i u sells is,
      sum_by-append weight (map (on_side true) buys) (map (on_side false) sells),
      sum_by-append weight (both (sides_of buys sells)) (u ∷ []),
      sum_by-cons weight u [],
    )

-- ---- the quotes

priced_alike : (buys : Bool) (units : List ShownUnit) → map (λ u. u.price) (map (on_side buys) units) ≡ map (λ u. u.price) units
priced_alike buys [] = refl
priced_alike buys (u ∷ units) = ap (λ (ns : List ℕ). u.price ∷ ns) (priced_alike buys units)

pub buying : (sides : SortedSides) → filter (λ u. u.buys) (both sides) ≡ map (on_side true) sides.buys
buying sides =
    filter-append (λ u. u.buys) (map (on_side true) sides.buys) (map (on_side false) sides.sells)
    ∙ rw (filter-map (λ u. u.buys) (on_side true) sides.buys, filter-map (λ u. u.buys) (on_side false) sides.sells, all_pass (λ _. true) sides.buys (λ _. refl), none_pass (λ _. false) sides.sells (λ _. refl)) (append-nil _)

pub selling : (sides : SortedSides) → filter (λ u. not u.buys) (both sides) ≡ map (on_side false) sides.sells
selling sides =
    filter-append (λ u. not u.buys) (map (on_side true) sides.buys) (map (on_side false) sides.sells)
    ∙ rw (filter-map (λ u. not u.buys) (on_side true) sides.buys, filter-map (λ u. not u.buys) (on_side false) sides.sells, none_pass (λ _. false) sides.buys (λ _. refl), all_pass (λ _. true) sides.sells (λ _. refl)) refl

no_higher : (u v : ShownUnit) → goes_first true v u ≡ false → v.price ≤ u.price
no_higher u v h = grind (arith, nat_tests)

no_lower : (u v : ShownUnit) → goes_first false v u ≡ false → u.price ≤ v.price
no_lower u v h = grind (arith, nat_tests)

greatest_first : (n : ℕ) (units : List ShownUnit) → AllByRecursion (λ v. v.price ≤ n) units → fold max n (map (λ u. u.price) units) ≡ n
greatest_first n [] h = refl
greatest_first n (u ∷ units) h = let same : max n u.price ≡ n = omega (arith, h.0) in ap (λ m. fold max m (map (λ v. v.price) units)) same ∙ greatest_first n units h.1

least_first : (n : ℕ) (units : List ShownUnit) → AllByRecursion (λ v. n ≤ v.price) units → fold min n (map (λ u. u.price) units) ≡ n
least_first n [] h = refl
least_first n (u ∷ units) h = let same : min n u.price ≡ n = omega (arith, h.0) in ap (λ m. fold min m (map (λ v. v.price) units)) same ∙ least_first n units h.1

pub highest_is : (buys sells : List ShownUnit) → IsSideSorted true buys → get_or (map (λ u. u.price) buys) 0 0 ≡ highest_buy (both (sides_of buys sells))
highest_is buys sells sorted =
    first_price buys sorted ∙ ap (fold max 0) (sym (priced_alike true buys)) ∙ ap (λ (us : List BidUnit). fold max 0 (map (λ u. u.price) us)) (sym (buying (sides_of buys sells)))
  where
    from_none : (n : ℕ) → max 0 n ≡ n
    from_none n = omega arith

    first_price : (units : List ShownUnit) → IsSideSorted true units → get_or (map (λ u. u.price) units) 0 0 ≡ fold max 0 (map (λ u. u.price) units)
    first_price [] h = refl
    first_price (u ∷ units) h = sym (ap (λ n. fold max n (map (λ v. v.price) units)) (from_none u.price) ∙ greatest_first u.price units (all-weaker _ _ units (λ v k. no_higher u v k) h.0))

pub lowest_is : (buys sells : List ShownUnit) → IsSideSorted false sells → get_or (map (λ u. u.price) sells) 0 0 ≡ lowest_sell (both (sides_of buys sells))
lowest_is buys sells sorted =
    first_price sells sorted ∙ ap lowest (sym (priced_alike false sells)) ∙ ap (λ (us : List BidUnit). lowest (map (λ u. u.price) us)) (sym (selling (sides_of buys sells)))
  where
    first_price : (units : List ShownUnit) → IsSideSorted false units → get_or (map (λ u. u.price) units) 0 0 ≡ lowest (map (λ u. u.price) units)
    first_price [] h = refl
    first_price (u ∷ units) h = sym (least_first u.price units (all-weaker _ _ units (λ v k. no_lower u v k) h.0))
