-- How many units of standing points are left to sell after sales.
use Rattle.std.proofs.Common.{ℤ, ◌≡◌, ◌≢◌, ℕ, ◌+◌, ◌≤◌, Bool, true, false, cond, List, [], ◌∷◌, ◌++◌, map, refl, sym, subst, arith, not, filter, All}
use Rattle.std.specs.List.{AllByRecursion}
use Rattle.std.proofs.lemmas.List.Elements.{All-from_recursion}
use Rattle.std.proofs.lemmas.List.Sums.{sum_by-cons, sum_by-append}
use Rattle.std.proofs.lemmas.List.Filters.{sum_by-filter_both}
use Rattle.flight_auction.specs.{Point, Trade, size_of, total_size, traded, Spends, IsShort, StandingPoint, owned_by, sale, is_points_agent, agents_points, others_than, reaches, sales, unsold, units_standing, IsFlightSound}
use Rattle.tac_base.proofs.Faults.{few_units, full_points}
use Rattle.auction_rules.proofs.Agents.{number_same}
use Rattle.auction_rules.proofs.Trading.{sum_by-filter-le}
use Rattle.auction_rules.proofs.Lists.{all-filter}

HasUnits : StandingPoint → Type 0
HasUnits s = 1 ≤ size_of s.point

-- ---- each point that stands has units

each_some : (standing : List StandingPoint) → ((agent : ℕ) → AllByRecursion (λ (p : Point). size_of p ≢ 0) (agents_points agent standing)) → AllByRecursion HasUnits standing
unfolding HasUnits
each_some [] h = tt
each_some (s ∷ standing) h = (first, each_some standing later)
  where
    Own : Bool → ℕ → Type 0
    Own b agent = AllByRecursion (λ (p : Point). size_of p ≢ 0) (map (λ (x : StandingPoint). x.point) (cond b (s ∷ filter (is_points_agent agent) standing) (filter (is_points_agent agent) standing)))

    first : 1 ≤ size_of s.point
    first = let own : Own true s.agent = subst (λ (b : Bool). Own b s.agent) (number_same s.agent) (h s.agent) in let some = own.0 in omega (arith, some)

    rest : (b : Bool) (agent : ℕ) → Own b agent → AllByRecursion (λ (p : Point). size_of p ≢ 0) (agents_points agent standing)
    rest true agent own = own.1
    rest false agent own = own

    later : (agent : ℕ) → AllByRecursion (λ (p : Point). size_of p ≢ 0) (agents_points agent standing)
    later agent = rest (is_points_agent agent s) agent (h agent)

sound_some : (bound : ℤ) (price : ℕ) (standing : List StandingPoint) → IsFlightSound bound price standing → AllByRecursion HasUnits standing
sound_some bound price standing sound = each_some standing (λ agent. full_points 0 0 (agents_points agent standing) (sound.limited agent))

-- ---- what sales leave

sold_units : (good price : ℕ) (kept : List StandingPoint) → traded (map (sale good price) kept) ≡ units_standing kept
sold_units good price [] = refl
sold_units good price (s ∷ kept) =
    omega (arith, sold_units good price kept, sum_by-cons (λ (t : Trade). t.units) (sale good price s) (map (sale good price) kept), sum_by-cons (λ (x : StandingPoint). size_of x.point) s kept)

each_sale : (good price : ℕ) (kept : List StandingPoint) → AllByRecursion HasUnits kept → AllByRecursion (λ (t : Trade). 1 ≤ t.units) (map (sale good price) kept)
unfolding HasUnits
each_sale good price [] h = tt
each_sale good price (s ∷ kept) h = (h.0, each_sale good price kept h.1)

-- what is sold and what is left are all that stood
pub sales_spend : (good bound_price current before : ℕ) (bound : ℤ) (standing left : List StandingPoint) (trades : List Trade) → IsFlightSound bound bound_price standing → units_standing standing ≤ before →
    trades ≡ sales good current standing → left ≡ unsold current standing → Spends before (units_standing left) trades
sales_spend good bound_price current before bound standing left trades sound le sold kept =
    let both = sum_by-filter_both (reaches current) (λ s. not (reaches current s)) (λ s. refl) (λ (x : StandingPoint). size_of x.point) standing in
    subst (λ (ts : List Trade). Spends before (units_standing left) ts) (sym sold)
    (subst (λ (l : List StandingPoint). Spends before (units_standing l) (sales good current standing)) (sym kept)
    (record {
      some = All-from_recursion (λ (t : Trade). 1 ≤ t.units) (sales good current standing) (each_sale good current (filter (reaches current) standing) (all-filter HasUnits (reaches current) standing (sound_some bound bound_price standing sound)));
      few = omega (arith, both, sold_units good current (filter (reaches current) standing), le);
    }))

-- ---- what a bid offers

owned_units : (agent : ℕ) (points : List Point) → units_standing (owned_by agent points) ≡ total_size points
owned_units agent [] = refl
owned_units agent (p ∷ points) =
    omega (arith, owned_units agent points, sum_by-cons (λ (x : StandingPoint). size_of x.point) (record { agent = agent; point = p }) (owned_by agent points), sum_by-cons size_of p points)

-- an agent's bid in place of its earlier one adds at most its own units
pub placed_units : (agent : ℕ) (standing : List StandingPoint) (points : List Point) → total_size points ≤ 16 →
    units_standing (others_than agent standing ++ owned_by agent points) ≤ units_standing standing + 16
placed_units agent standing points small =
    omega (
      arith,
      sum_by-append (λ (x : StandingPoint). size_of x.point) (others_than agent standing) (owned_by agent points),
      sum_by-filter-le (λ (x : StandingPoint). size_of x.point) (λ s. not (is_points_agent agent s)) standing,
      owned_units agent points,
      small,
    )

pub forgotten_units : (agent : ℕ) (standing : List StandingPoint) → units_standing (others_than agent standing) ≤ units_standing standing
forgotten_units agent standing = sum_by-filter-le (λ (x : StandingPoint). size_of x.point) (λ s. not (is_points_agent agent s)) standing

-- ---- each sale is short

few_each : (standing : List StandingPoint) → ((agent : ℕ) → total_size (agents_points agent standing) ≤ 16) → AllByRecursion (λ s. size_of s.point ≤ 16) standing
few_each [] few = tt
few_each (s ∷ standing) few = (first, few_each standing later)
  where
    Total : Bool → ℕ → ℕ
    Total b agent = total_size (map (λ (x : StandingPoint). x.point) (cond b (s ∷ filter (is_points_agent agent) standing) (filter (is_points_agent agent) standing)))

    with_own : (agent : ℕ) → Total true agent ≡ size_of s.point + total_size (agents_points agent standing)
    with_own agent = sum_by-cons size_of s.point (agents_points agent standing)

    first : size_of s.point ≤ 16
    first = let own : Total true s.agent ≤ 16 = subst (λ (b : Bool). Total b s.agent ≤ 16) (number_same s.agent) (few s.agent) in omega (arith, own, with_own s.agent)

    rest : (b : Bool) (agent : ℕ) → Total b agent ≤ 16 → total_size (agents_points agent standing) ≤ 16
    rest true agent le = omega (arith, le, with_own agent)
    rest false agent le = le

    later : (agent : ℕ) → total_size (agents_points agent standing) ≤ 16
    later agent = rest (is_points_agent agent s) agent (few agent)

pub sales_short : (good bound_price current : ℕ) (bound : ℤ) (standing : List StandingPoint) (trades : List Trade) → IsFlightSound bound bound_price standing → current ≤ 800 → trades ≡ sales good current standing → All IsShort trades
unfolding HasUnits
sales_short good bound_price current bound standing trades sound priced is =
    subst (λ (ts : List Trade). All IsShort ts) (sym is)
    (All-from_recursion IsShort (sales good current standing) (each (filter (reaches current) standing)
    (all-filter HasUnits (reaches current) standing (sound_some bound bound_price standing sound))
    (all-filter (λ s. size_of s.point ≤ 16) (reaches current) standing (few_each standing (λ agent. omega (arith, few_units 0 0 (agents_points agent standing) (sound.limited agent) (omega arith)))))))
  where
    each : (kept : List StandingPoint) → AllByRecursion HasUnits kept → AllByRecursion (λ s. size_of s.point ≤ 16) kept → AllByRecursion IsShort (map (sale good current) kept)
    each [] some few = tt
    each (s ∷ kept) some few = (record { some = some.0; few = few.0; priced = omega (arith, priced) }, each kept some.1 few.1)
