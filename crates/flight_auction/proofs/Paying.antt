-- Nobody pays more than the price of the point that is sold.
use Rattle.std.proofs.Common.{◌≡◌, ℕ, zero, suc, ◌≤◌, Bool, true, false, cond, List, [], ◌∷◌, ◌++◌, map, refl, sym, subst, arith, not, filter, nat_le, All, Any}
use Rattle.std.specs.List.{AllByRecursion}
use Rattle.std.proofs.lemmas.Bool.Decides.{nat_tests}
use Rattle.std.proofs.lemmas.List.Elements.{All-from_recursion, All-weaker}
use Rattle.flight_auction.specs.{Trade, size_of, StandingPoint, sale, is_points_agent, reaches, sales, others_than, IsPaid}
use Rattle.auction_rules.proofs.Lists.{all-weaker}

any_here : (P : StandingPoint → Type 0) (s : StandingPoint) (standing : List StandingPoint) → P s → Any P (s ∷ standing)
any_here P s standing h = (0, s, omega arith, refl, h)

any_later : (P : StandingPoint → Type 0) (s : StandingPoint) (standing : List StandingPoint) → Any P standing → Any P (s ∷ standing)
any_later P s standing (k, x, lt, at, h) = (suc k, x, omega arith, at, h)

any_first : (P : StandingPoint → Type 0) (s : StandingPoint) (xs ys : List StandingPoint) → (Any P xs → Any P ys) → Any P (s ∷ xs) → Any P (s ∷ ys)
any_first P s xs ys more (zero, x, lt, at, h) = any_here P s ys (subst P (sym at) h)
any_first P s xs ys more (suc k, x, lt, at, h) = any_later P s ys (more (k, x, omega arith, at, h))

-- what is found among some of the points is found among all
any_of_all : (P : StandingPoint → Type 0) (test : StandingPoint → Bool) (xs ys : List StandingPoint) → Any P (filter test xs ++ ys) → Any P (xs ++ ys)
any_of_all P test [] ys h = h
any_of_all P test (s ∷ xs) ys h = by_test (test s) (any_of_all P test xs ys) h
  where
    by_test : (b : Bool) → (Any P (filter test xs ++ ys) → Any P (xs ++ ys)) → Any P (cond b (s ∷ filter test xs) (filter test xs) ++ ys) → Any P (s ∷ (xs ++ ys))
    by_test true more found = any_first P s (filter test xs ++ ys) (xs ++ ys) more found
    by_test false more found = any_later P s (xs ++ ys) (more found)

le_by_test : (m n : ℕ) → nat_le m n ≡ true → m ≤ n
le_by_test m n h = grind (arith, nat_tests)

each_paid : (good price : ℕ) (standing : List StandingPoint) → AllByRecursion (IsPaid standing) (sales good price standing)
each_paid good price [] = tt
each_paid good price (s ∷ standing) = by_test (reaches price s) refl (all-weaker (IsPaid standing) (IsPaid (s ∷ standing)) (sales good price standing) later (each_paid good price standing))
  where
    later : (trade : Trade) → IsPaid standing trade → IsPaid (s ∷ standing) trade
    later trade found = any_later (λ x. (x.agent ≡ trade.buyer) × (size_of x.point ≡ trade.units) × (trade.price ≤ x.point.price)) s standing found

    by_test : (b : Bool) → reaches price s ≡ b → AllByRecursion (IsPaid (s ∷ standing)) (sales good price standing) →
        AllByRecursion (IsPaid (s ∷ standing)) (map (sale good price) (cond b (s ∷ filter (reaches price) standing) (filter (reaches price) standing)))
    by_test true h rest =
        (any_here (λ x. (x.agent ≡ s.agent) × (size_of x.point ≡ size_of s.point) × (price ≤ x.point.price)) s standing (refl, refl, le_by_test price s.point.price h), rest)
    by_test false h rest = rest

-- each sale is paid by the point that is sold
pub sales_paid : (good price : ℕ) (standing : List StandingPoint) (trades : List Trade) → trades ≡ sales good price standing → All (IsPaid standing) trades
sales_paid good price standing trades is = All-from_recursion (IsPaid standing) trades (subst (AllByRecursion (IsPaid standing)) (sym is) (each_paid good price standing))

-- the same if the points of one agent were replaced
pub bid_paid : (good price agent : ℕ) (standing added : List StandingPoint) (trades : List Trade) → trades ≡ sales good price (others_than agent standing ++ added) →
    All (IsPaid (standing ++ added)) trades
bid_paid good price agent standing added trades is =
    All-weaker (IsPaid (others_than agent standing ++ added)) (IsPaid (standing ++ added))
    (λ trade found. any_of_all (λ x. (x.agent ≡ trade.buyer) × (size_of x.point ≡ trade.units) × (trade.price ≤ x.point.price)) (λ s. not (is_points_agent agent s)) standing added found)
    trades (sales_paid good price (others_than agent standing ++ added) trades is)
