-- Where every feature is fixed, the scarcity prices leave no more than the packages' worth.
use Rattle.std.proofs.Common.{◌≡◌, ℕ, zero, suc, ◌+◌, ◌*◌, ◌<◌, ◌≤◌, ◌⊎◌, ◌&&◌, ℤ, pos, ◌+ℤ◌, ◌-ℤ◌, ◌≤ℤ◌, Bool, true, false, cond, List, [], ◌∷◌, Option, Some, None, is_some, map, length, get_or, leb, int_le, inl, inr, refl, sym, ap, subst, ◌∙◌, arith, filter, slice_get, mul-le-mul_left}
use Rattle.std.proofs.lemmas.Int.{ints}
use Rattle.std.proofs.lemmas.Bool.{cases_lt, and_parts}
use Rattle.std.proofs.lemmas.Bool.Decides.{nat_tests}
use Rattle.allocator.specs.{Preferences, AccountFile, IsAccount, stock_of, Package, is_package, utility_of, packages, feature_of, rank_of, total_of, used_by, Narrowing, sum_below, cost_of, stock_value, margin_of, greatest, plus, best_margin, margins, leaf_bound, is_within, fits, has_fixed, chosen, IsFull, ArePackagesLeft, IsOut}
use Rattle.packages.specs.declared.travel_packages.Package.TheVariants as kinds
use Rattle.packages.proofs.Found.{package_lawful, ranges_of, three_of}
use Rattle.bound_cert.proofs.Duality.{all_cost, cost_together, sum_below_le}
use Rattle.allocator.specs.Scarcity.{scarcity_price}
use Rattle.dual_bound.proofs.Greatest.{greatest_at_most, parts_of}

-- packages with the same features are the same
same_trip : (hotel arrive depart : ℕ) (nights : List ℕ) (hotel' arrive' depart' : ℕ) (nights' : List ℕ)
    → is_package (kinds.Trip hotel arrive depart nights) ≡ true → is_package (kinds.Trip hotel' arrive' depart' nights') ≡ true
    → 1 + 10 * hotel + rank_of arrive depart ≡ 1 + 10 * hotel' + rank_of arrive' depart' → (hotel ≡ hotel') × (arrive ≡ arrive') × (depart ≡ depart')
same_trip hotel arrive depart nights hotel' arrive' depart' nights' lawful lawful' is = (grind (arith, nat_tests), grind (arith, nat_tests), grind (arith, nat_tests))

pub same_package : (p q : Package) → is_package p ≡ true → is_package q ≡ true → ((feature : ℕ) → feature < 4 → feature_of feature p ≡ feature_of feature q) → p ≡ q
same_package kinds.None kinds.None lawful lawful' is = refl
same_package kinds.None (kinds.Trip hotel arrive depart nights) lawful lawful' is = absurd (omega (arith, is 0 (omega arith)))
same_package (kinds.Trip hotel arrive depart nights) kinds.None lawful lawful' is = absurd (omega (arith, is 0 (omega arith)))
same_package (kinds.Trip hotel arrive depart nights) (kinds.Trip hotel' arrive' depart' nights') lawful lawful' is =
    let days = same_trip hotel arrive depart nights hotel' arrive' depart' nights' lawful lawful' (is 0 (omega arith)) in
    let all = three_of nights (ranges_of hotel arrive depart nights lawful).three in
    let all' = three_of nights' (ranges_of hotel' arrive' depart' nights' lawful').three in
    let x : get_or nights 0 0 ≡ get_or nights' 0 0 = is 1 (omega arith) in
    let y : get_or nights 1 0 ≡ get_or nights' 1 0 = is 2 (omega arith) in
    let z : get_or nights 2 0 ≡ get_or nights' 2 0 = is 3 (omega arith) in
    let nights_are : nights ≡ nights' = cc in
    cc

same_at_most : (f : Package → ℤ) (q x : Package) → q ≡ x → f q ≤ℤ f x
same_at_most f q x is = omega (arith, ints, ap f is)

-- a greatest number is at most what f gives to the only element that passes
greatest_only : (f : Package → ℤ) (test : Package → Bool) (xs : List Package) (x : Package) (m : ℤ) → ((k : ℕ) (q : Package) → slice_get xs k ≡ Some q → test q ≡ true → q ≡ x) → greatest (map f (filter test xs)) ≡ Some m → m ≤ℤ f x
greatest_only f test xs x m only is = greatest_at_most f test xs (f x) m (λ k q at passes. same_at_most f q x (only k q at passes)) is

step_up : (u t c s : ℕ) (b m n : ℤ) → b ≤ℤ (pos u -ℤ pos c) → (m +ℤ pos s) ≤ℤ pos t → b +ℤ m ≡ n → (n +ℤ pos (c + s)) ≤ℤ pos (u + t)
step_up u t c s b m n hb hm is = omega (arith, ints, hb, hm, is)

-- where each client has one package left at most, the margins and the cost are no more than the packages' worth
margins_upper : (left : Narrowing) (prices : List ℕ) (clients : List Preferences) (ps : List Package) (n : ℕ) → length clients ≡ length ps
    → ((k number : ℕ) (q : Package) → k < length ps → slice_get packages number ≡ Some q → left (n + k) q ≡ true → q ≡ get_or ps k kinds.None)
    → (m : ℤ) → margins left prices n clients ≡ Some m → (m +ℤ pos (all_cost prices ps)) ≤ℤ pos (total_of clients ps)
unfolding all_cost
margins_upper left prices [] [] n len only m is =
    let m_is : pos 0 ≡ m = cc in
    omega (arith, ints, m_is)
margins_upper left prices [] (p ∷ ps) n len only m is = absurd (omega (arith, len))
margins_upper left prices (c ∷ cs) [] n len only m is = absurd (omega (arith, len))
margins_upper left prices (c ∷ cs) (p ∷ ps) n len only m is =
    let parts = parts_of (best_margin c prices (left n)) (margins left prices (n + 1) cs) m is in
    let best = greatest_only (margin_of c prices) (left n) packages p parts.left_part (λ k q at h. only 0 k q (omega arith) at (subst (λ j. left j q ≡ true) (omega arith) h)) parts.left_is in
    let rest = margins_upper left prices cs ps (n + 1) (omega (arith, len)) (λ k number q lt at h. only (suc k) number q (omega arith) at (subst (λ j. left j q ≡ true) (omega arith) h)) parts.right_part parts.right_is in
    step_up (utility_of c p) (total_of cs ps) (cost_of prices p) (all_cost prices ps) parts.left_part parts.right_part m best rest parts.sum_is

-- a sum where one term is greater by d
sum_below_gain : (f h : ℕ → ℕ) (n k d : ℕ) → ((j : ℕ) → j < n → f j ≤ h j) → k < n → f k + d ≤ h k → sum_below f n + d ≤ sum_below h n
unfolding sum_below
sum_below_gain f h zero k d le lt gain = absurd (omega arith)
sum_below_gain f h (suc n) k d le lt gain = elim (cases_lt k n) [
  | inl below ↦ omega (arith, sum_below_gain f h n k d (λ j jlt. le j (omega arith)) below gain, le n (omega arith))
  | inr above ↦
      let same : k ≡ n = omega arith in
      let here : f n + d ≤ h n = subst (λ j. f j + d ≤ h j) same gain in
      omega (arith, sum_below_le f h n (λ j jlt. le j (omega arith)), here)
]

term_le : (y s u : ℕ) → y ≡ cond (leb s u) 14001 0 → y * s ≤ y * u
term_le y s u is = elim (cases_lt u s) [
  | inl lt ↦
      let none : y ≡ 0 = grind (arith, nat_tests) in
      omega (arith, ap (λ n. n * s) none)
  | inr ge ↦ mul-le-mul_left y ge
]

term_gain : (y s u : ℕ) → y ≡ cond (leb s u) 14001 0 → s < u → y * s + 14001 ≤ y * u
term_gain y s u is lt =
    let full : y ≡ 14001 = grind (arith, nat_tests) in
    rw full (omega arith)

le_bool : (a b : ℤ) → a ≤ℤ b → int_le a b ≡ true
le_bool a b h = grind (arith, ints)

by_margins : (o : Option ℤ) (stock claim : ℕ) → ((m : ℤ) → o ≡ Some m → (pos stock +ℤ m) ≤ℤ pos claim) → is_within (plus (Some (pos stock)) o) claim ≡ true
by_margins None stock claim h = refl
by_margins (Some m) stock claim h = le_bool (pos stock +ℤ m) (pos claim) (h m refl)

-- each feature of the eight clients has one value among the packages left
abbrev pub AreFixed : Narrowing → Type 0
AreFixed left = (client feature : ℕ) → client < 8 → feature < 4 → (p q : Package) → left client p ≡ true → left client q ≡ true → feature_of feature p ≡ feature_of feature q

-- the prices are scarce for the packages
abbrev pub IsScarcity : AccountFile → List Package → List ℕ → Type 0
IsScarcity account ps prices = (good : ℕ) → good < 28 → get_or prices good 0 ≡ scarcity_price (stock_of account.holdings) ps good

-- where every feature is fixed, the scarcity prices of the packages left bound them by a claim that is no less than their worth, or that does not matter since they use too much
pub full_leaf : (account : AccountFile) (is_account : IsAccount account) (left : Narrowing) (prices : List ℕ) (ps : List Package) (claim : ℕ) → length ps ≡ 8 → ArePackagesLeft left ps → AreFixed left → IsScarcity account ps prices → total_of account.clients ps ≤ 14000
    → (total_of account.clients ps ≤ claim) ⊎ ((good : ℕ) × (good < 28) × (stock_of account.holdings good < used_by ps good))
    → is_within (leaf_bound account left prices) claim ≡ true
full_leaf account is_account left prices ps claim eight are_left fixed scarce small settled =
    let price : ℕ → ℕ = λ good. get_or prices good 0 in
    let stock = stock_value account.holdings prices in
    let cost = all_cost prices ps in
    let only : (k number : ℕ) (q : Package) → k < length ps → slice_get packages number ≡ Some q → left (0 + k) q ≡ true → q ≡ get_or ps k kinds.None = λ k number q lt at h.
    same_package q (get_or ps k kinds.None) (package_lawful number q at) (are_left.lawful k)
    (λ feature below. fixed k feature (omega (arith, eight)) below q (get_or ps k kinds.None) (subst (λ j. left j q ≡ true) (omega arith) h) (are_left.kept k (omega (arith, eight)))) in
    let upper = margins_upper left prices account.clients ps 0 (is_account.clients.count ∙ sym eight) only in
    let terms : (j : ℕ) → j < 28 → price j * stock_of account.holdings j ≤ price j * used_by ps j = λ j lt. term_le (price j) (stock_of account.holdings j) (used_by ps j) (scarce j lt) in
    elim settled [
      | inl enough ↦
          let le = sum_below_le (λ j. price j * stock_of account.holdings j) (λ j. price j * used_by ps j) 28 terms in
          by_margins (margins left prices 0 account.clients) stock claim (λ m is. omega (arith, ints, upper m is, enough, le, cost_together prices ps))
      | inr over ↦
          let gain = sum_below_gain (λ j. price j * stock_of account.holdings j) (λ j. price j * used_by ps j) 28 over.0 14001 terms over.1
          (term_gain (price over.0) (stock_of account.holdings over.0) (used_by ps over.0) (scarce over.0 over.1) over.2) in
          by_margins (margins left prices 0 account.clients) stock claim (λ m is. omega (arith, ints, upper m is, small, gain, cost_together prices ps))
    ]

filter_none : (test : Package → Bool) (xs : List Package) → ((n : ℕ) (p : Package) → slice_get xs n ≡ Some p → test p ≡ false) → filter test xs ≡ []
filter_none test [] h = refl
filter_none test (x ∷ xs) h = rw (h 0 x refl) (filter_none test xs (λ n p. h (suc n) p))

plus_none : (a : Option ℤ) → plus a None ≡ None
plus_none None = refl
plus_none (Some a) = refl

margins_out : (left : Narrowing) (prices : List ℕ) (clients : List Preferences) (n k : ℕ) → k < length clients → IsOut left (n + k) → margins left prices n clients ≡ None
margins_out left prices [] n k lt out = absurd (omega arith)
margins_out left prices (c ∷ cs) n zero lt out =
    let none = filter_none (left n) packages (subst (λ j. (i : ℕ) (p : Package) → slice_get packages i ≡ Some p → left j p ≡ false) (omega arith) out) in
    rw none
margins_out left prices (c ∷ cs) n (suc k) lt out =
    let rest = margins_out left prices cs (n + 1) k (omega arith) (subst (λ j. (i : ℕ) (p : Package) → slice_get packages i ≡ Some p → left j p ≡ false) (omega arith) out) in
    rw rest (plus_none (best_margin c prices (left n)))

-- where some client has no package left, every claim holds
pub out_leaf : (account : AccountFile) (is_account : IsAccount account) (left : Narrowing) (prices : List ℕ) (claim client : ℕ) → client < 8 → IsOut left client → is_within (leaf_bound account left prices) claim ≡ true
out_leaf account is_account left prices claim client lt out =
    let none = margins_out left prices account.clients 0 client (omega (arith, is_account.clients.count)) (subst (λ j. (i : ℕ) (p : Package) → slice_get packages i ≡ Some p → left j p ≡ false) (omega arith) out) in
    rw none

fits_same : (o : Option ℕ) (a b : ℕ) → is_some o ≡ true → fits o a ≡ true → fits o b ≡ true → a ≡ b
fits_same None a b h ha hb = cc
fits_same (Some v) a b h ha hb = grind (arith, nat_tests)

-- the four fits of a row
abbrev Fits4 : List (Option ℕ) → Package → Type 0
Fits4 row p =
    (fits (get_or row 0 None) (feature_of 0 p) ≡ true) × (fits (get_or row 1 None) (feature_of 1 p) ≡ true)
    × (fits (get_or row 2 None) (feature_of 2 p) ≡ true) × (fits (get_or row 3 None) (feature_of 3 p) ≡ true)

-- one of four features
by_feature : (row : List (Option ℕ)) (feature : ℕ) (p q : Package) → feature < 4 → is_some (get_or row feature None) ≡ true → Fits4 row p → Fits4 row q → feature_of feature p ≡ feature_of feature q
by_feature row zero p q lt is hp hq = fits_same (get_or row 0 None) (feature_of 0 p) (feature_of 0 q) is hp.0 hq.0
by_feature row (suc zero) p q lt is hp hq = fits_same (get_or row 1 None) (feature_of 1 p) (feature_of 1 q) is hp.1 hq.1
by_feature row (suc (suc zero)) p q lt is hp hq = fits_same (get_or row 2 None) (feature_of 2 p) (feature_of 2 q) is hp.2 hq.2
by_feature row (suc (suc (suc zero))) p q lt is hp hq = fits_same (get_or row 3 None) (feature_of 3 p) (feature_of 3 q) is hp.3 hq.3
by_feature row (suc (suc (suc (suc n)))) p q lt is hp hq = absurd (omega (arith, lt))

-- packages that have the fixed values of a row have the same value where one is fixed
row_same : (row : List (Option ℕ)) (feature : ℕ) (p q : Package) → feature < 4 → is_some (get_or row feature None) ≡ true → has_fixed row p ≡ true → has_fixed row q ≡ true → feature_of feature p ≡ feature_of feature q
unfolding has_fixed
row_same row feature p q lt is hp hq =
    let fit : ℕ → Package → Bool = λ j r. fits (get_or row j None) (feature_of j r) in
    let p0 = and_parts (fit 0 p) (fit 1 p && (fit 2 p && fit 3 p)) hp in
    let q0 = and_parts (fit 0 q) (fit 1 q && (fit 2 q && fit 3 q)) hq in
    let p1 = and_parts (fit 1 p) (fit 2 p && fit 3 p) p0.1 in
    let q1 = and_parts (fit 1 q) (fit 2 q && fit 3 q) q0.1 in
    let p2 = and_parts (fit 2 p) (fit 3 p) p1.1 in
    let q2 = and_parts (fit 2 q) (fit 3 q) q1.1 in
    by_feature row feature p q lt is (p0.0, p1.0, p2.0, p2.1) (q0.0, q1.0, q2.0, q2.1)

-- where every feature is fixed, what is left to a client has the same values
pub full_same : (choice : List (List (Option ℕ))) → IsFull choice → AreFixed (chosen choice)
full_same choice full = λ client feature client_in feature_in p q hp hq. row_same (get_or choice client []) feature p q feature_in (full client feature client_in feature_in) hp hq
