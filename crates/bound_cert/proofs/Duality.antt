-- Weak duality: prices bound every feasible allocation.
use Rattle.std.proofs.Common.{◌≡◌, ℕ, zero, suc, ◌+◌, ◌*◌, ◌<◌, ◌≤◌, ℤ, pos, ◌+ℤ◌, ◌-ℤ◌, ◌≤ℤ◌, Bool, true, false, List, [], ◌∷◌, Option, Some, None, map, length, get_or, int_le, refl, sym, ap, subst, ◌∙◌, arith, filter, mul-le-mul_left}
use Rattle.std.specs.Int.{int_max}
use Rattle.std.proofs.lemmas.Int.{ints}
use Rattle.std.proofs.lemmas.List.Sums.{sum_by-cons}
use Rattle.tac_base.specs.Clients.{Preferences}
use Rattle.bound_cert.specs.{AccountFile, IsAccount, Package, is_package, use_of, utility_of, IsFeasible, total_of, used_by, Narrowing, sum_below, cost_of, stock_value, margin_of, greater, greatest, plus, best_margin, margins, leaf_bound, IsLeft, is_within}
use Rattle.packages.specs.Stocks.{stock_of}
use Rattle.packages.specs.declared.travel_packages.Package.TheVariants as kinds
use Rattle.packages.specs.Listing.{packages}
use Rattle.packages.proofs.Found.{package_found}

below_max_left : (a b : ℤ) → a ≤ℤ int_max a b
below_max_left a b = grind (arith, ints)

below_max_right : (a b : ℤ) → b ≤ℤ int_max a b
below_max_right a b = grind (arith, ints)

-- the greatest number is there, and is at least that of each element that passes
IsUnder : Option ℤ → ℤ → Type 0
IsUnder most n = (m : ℤ) × (most ≡ Some m) × (n ≤ℤ m)

under_here : (n : ℤ) (rest : Option ℤ) → IsUnder (greater (Some n) rest) n
unfolding IsUnder
under_here n None = (n, refl, grind (arith, ints))
under_here n (Some m) = (int_max n m, refl, below_max_left n m)

under_later : (n x : ℤ) (rest : Option ℤ) → IsUnder rest x → IsUnder (greater (Some n) rest) x
unfolding IsUnder
under_later n x None h = cc (h.1)
under_later n x (Some m) h =
    let is : m ≡ h.0 = cc (h.1) in
    (int_max n m, refl, omega (arith, ints, below_max_right n m, h.2, is))

under_filter : {X : Type 0} (f : X → ℤ) (x y : X) (ys : List X) (test : X → Bool) (b : Bool) → test y ≡ b → IsUnder (greatest (map f (filter test ys))) (f x) → IsUnder (greatest (map f (filter test (y ∷ ys)))) (f x)
under_filter f x y ys test true is h = rw is (under_later (f y) (f x) _ h)
under_filter f x y ys test false is h = rw is h

-- the greatest is at least what f gives to an element that passes
greatest_at : {X : Type 0} (f : X → ℤ) (test : X → Bool) (xs : List X) (k : ℕ) (x : X) → k < length xs → get_or xs k x ≡ x → test x ≡ true → IsUnder (greatest (map f (filter test xs))) (f x)
greatest_at f test [] k x h is passes = absurd (omega arith)
greatest_at f test (y ∷ ys) zero x h is passes = rw (is, passes) (under_here (f x) _)
greatest_at f test (y ∷ ys) (suc k) x h is passes = under_filter f x y ys test (test y) refl (greatest_at f test ys k x (omega (arith, h)) is passes)

-- a client's greatest margin is at least that of a package that it has left
best_under : (client : Preferences) (prices : List ℕ) (left : Package → Bool) (p : Package) → is_package p ≡ true → left p ≡ true → IsUnder (best_margin client prices left) (margin_of client prices p)
best_under client prices left p lawful is_left =
    let found = package_found p lawful in
    greatest_at (margin_of client prices) left packages found.0 p found.1 found.2 is_left

pub plus_some : (a b : Option ℤ) (x y : ℤ) → a ≡ Some x → b ≡ Some y → plus a b ≡ Some (x +ℤ y)
plus_some a b x y ha hb = rw (ha, hb)

-- what eight packages cost
unfoldable pub all_cost : List ℕ → List Package → ℕ
all_cost prices [] = 0
all_cost prices (p ∷ ps) = cost_of prices p + all_cost prices ps

step : (u t c s : ℕ) (b m : ℤ) → (pos u -ℤ pos c) ≤ℤ b → pos t ≤ℤ (m +ℤ pos s) → pos (u + t) ≤ℤ ((b +ℤ m) +ℤ pos (c + s))
step u t c s b m hb hm = omega (arith, ints, hb, hm)

-- the margins of clients and the cost of their packages add up to at least the packages' worth
pub margins_law : (left : Narrowing) (prices : List ℕ) (clients : List Preferences) (ps : List Package) (n : ℕ) → length clients ≡ length ps
    → ((k : ℕ) → k < length ps → is_package (get_or ps k kinds.None) ≡ true)
    → ((k : ℕ) → k < length ps → left (n + k) (get_or ps k kinds.None) ≡ true)
    → (m : ℤ) × (margins left prices n clients ≡ Some m) × (pos (total_of clients ps) ≤ℤ (m +ℤ pos (all_cost prices ps)))
unfolding all_cost IsUnder
margins_law left prices [] [] n len lawful is_left = (pos 0, refl, omega (arith, ints))
margins_law left prices [] (p ∷ ps) n len lawful is_left = absurd (omega (arith, len))
margins_law left prices (c ∷ cs) [] n len lawful is_left = absurd (omega (arith, len))
margins_law left prices (c ∷ cs) (p ∷ ps) n len lawful is_left =
    let here : left n p ≡ true = subst (λ j. left j p ≡ true) (omega arith) (is_left 0 (omega arith)) in
    let best = best_under c prices (left n) p (lawful 0 (omega arith)) here in
    let rest = margins_law left prices cs ps (n + 1) (omega (arith, len)) (λ k lt. lawful (suc k) (omega arith))
    (λ k lt. subst (λ j. left j (get_or ps k kinds.None) ≡ true) (omega arith) (is_left (suc k) (omega arith))) in (
      best.0 +ℤ rest.0,
      plus_some _ _ best.0 rest.0 best.1 rest.1,
      step (utility_of c p) (total_of cs ps) (cost_of prices p) (all_cost prices ps) best.0 rest.0 best.2 rest.2,
    )

pub sum_below_add : (f h r : ℕ → ℕ) (n : ℕ) → ((k : ℕ) → f k + h k ≡ r k) → sum_below f n + sum_below h n ≡ sum_below r n
unfolding sum_below
sum_below_add f h r zero is = refl
sum_below_add f h r (suc n) is = omega (arith, sum_below_add f h r n is, is n)

sum_below_zero : (f : ℕ → ℕ) (n : ℕ) → ((k : ℕ) → f k ≡ 0) → sum_below f n ≡ 0
unfolding sum_below
sum_below_zero f zero is = refl
sum_below_zero f (suc n) is = omega (arith, sum_below_zero f n is, is n)

pub sum_below_le : (f h : ℕ → ℕ) (n : ℕ) → ((k : ℕ) → k < n → f k ≤ h k) → sum_below f n ≤ sum_below h n
unfolding sum_below
sum_below_le f h zero is = omega arith
sum_below_le f h (suc n) is = omega (arith, sum_below_le f h n (λ k lt. is k (omega arith)), is n (omega arith))

times : (y a b c : ℕ) → c ≡ a + b → y * a + y * b ≡ y * c
times y a b c h = rw h (omega arith)

-- the cost of eight packages is the cost of what they use together
pub cost_together : (prices : List ℕ) (ps : List Package) → all_cost prices ps ≡ sum_below (λ good. get_or prices good 0 * used_by ps good) 28
unfolding all_cost
cost_together prices [] = sym (sum_below_zero (λ good. get_or prices good 0 * used_by [] good) 28 (λ k. omega arith))
cost_together prices (p ∷ ps) =
    let price : ℕ → ℕ = λ good. get_or prices good 0 in
    let more = sum_below_add (λ good. price good * use_of p good) (λ good. price good * used_by ps good) (λ good. price good * used_by (p ∷ ps) good) 28
    (λ k. times (price k) (use_of p k) (used_by ps k) (used_by (p ∷ ps) k) (sum_by-cons (λ q. use_of q k) p ps)) in
    ap (λ n. cost_of prices p + n) (cost_together prices ps) ∙ more

-- the cost of a feasible allocation is at most that of the stock
pub cost_within : (account : AccountFile) (prices : List ℕ) (ps : List Package) → IsFeasible account ps → all_cost prices ps ≤ stock_value account.holdings prices
cost_within account prices ps feasible =
    let price : ℕ → ℕ = λ good. get_or prices good 0 in
    let le = sum_below_le (λ good. price good * used_by ps good) (λ good. price good * stock_of account.holdings good) 28 (λ k lt. mul-le-mul_left (price k) (feasible.enough k lt)) in
    omega (arith, cost_together prices ps, le)

pub le_true : (a b : ℤ) → int_le a b ≡ true → a ≤ℤ b
le_true a b h = grind (arith, ints)

conclude : (stock total cost claim : ℕ) (m : ℤ) → int_le (pos stock +ℤ m) (pos claim) ≡ true → pos total ≤ℤ (m +ℤ pos cost) → cost ≤ stock → total ≤ claim
conclude stock total cost claim m h worth within = omega (arith, ints, le_true (pos stock +ℤ m) (pos claim) h, worth, within)

-- a feasible allocation of packages that are left is worth at most the leaf bound
pub leaf_law : (account : AccountFile) (is_account : IsAccount account) (claim : ℕ) (left : Narrowing) (prices : List ℕ) (ps : List Package) → is_within (leaf_bound account left prices) claim ≡ true → IsFeasible account ps → IsLeft left ps → total_of account.clients ps ≤ claim
leaf_law account is_account claim left prices ps h feasible is_left =
    let lawful : (k : ℕ) → k < length ps → is_package (get_or ps k kinds.None) ≡ true = λ k lt. feasible.lawful k kinds.None lt in
    let law = margins_law left prices account.clients ps 0 (is_account.clients.count ∙ sym feasible.eight) lawful
    (λ k lt. subst (λ j. left j (get_or ps k kinds.None) ≡ true) (omega arith) (is_left k (omega (arith, feasible.eight)))) in
    let bound = plus_some _ _ (pos (stock_value account.holdings prices)) law.0 refl law.1 in
    let within : is_within (Some (pos (stock_value account.holdings prices) +ℤ law.0)) claim ≡ true = ap (λ b. is_within b claim) (sym bound) ∙ h in
    conclude (stock_value account.holdings prices) (total_of account.clients ps) (all_cost prices ps) claim law.0 within law.2 (cost_within account prices ps feasible)
