-- What each agent has standing stays within the limits of a bid, so that all of it has room.
use Rattle.std.proofs.Common.{◌≡◌, ℕ, zero, suc, ◌+◌, ◌≤◌, Bool, true, false, cond, List, [], ◌∷◌, ◌++◌, length, map, refl, sym, ap, ◌∙◌, subst, arith, append-nil, None, length-append, ℤ, not, ◌==◌, filter, sum_by, if◌then◌else◌, All}
use Rattle.std.specs.List.{AllByRecursion}
use Rattle.std.proofs.lemmas.List.{length-map}
use Rattle.std.proofs.lemmas.List.Elements.{filter-append, All-filter, All-append, All-from_recursion, recursion_from_All}
use Rattle.std.proofs.lemmas.List.{map-append}
use Rattle.std.proofs.lemmas.List.Sums.{sum_by-cons}
use Rattle.flight_auction.specs.{Point, Trade, size_of, total_size, point_fault, first_fault, fault_of, left_fault, bought, StandingPoint, owned_by, sale, is_points_agent, agents_points, others_than, reaches, sales, unsold, IsFlightSound}
use Rattle.tac_base.proofs.Faults.{IsGood, good_point, both_none, few_units, list_points, bid_left}
use Rattle.auction_rules.proofs.Agents.{another}
use Rattle.auction_rules.proofs.Standing.{number_is}
use Rattle.auction_rules.proofs.LeftPoints.{no_fault}
use Rattle.auction_rules.proofs.Lists.{filter-map, filter-filter, filter_all, all_passing}
use Rattle.flight_auction.proofs.Sold.{stays}
use Rattle.flight_auction.proofs.Owning.{owned_points}

-- ---- fewer points

-- some of the points of a list without a fault are one
fewer_points : (test : Point → Bool) (count used count' used' : ℕ) (points : List Point) → count' ≤ count → used' ≤ used → count ≤ 16 → first_fault count used points ≡ None →
    first_fault count' used' (filter test points) ≡ None
fewer_points test count used count' used' [] few small le h = refl
fewer_points test count used count' used' (point ∷ points) few small le h =
    let parts = both_none (point_fault count used point) (first_fault (count + 1) (used + size_of point) points) h in
    let good = good_point count used point parts.0 in
    let good' : IsGood count' used' point = record { few = λ is. omega (arith, good.few, is); some = good.some; cheap = good.cheap; dear = good.dear; small = omega (arith, good.small) } in
    let next : count + 1 ≤ 16 = omega (arith, good.few) in
    keep (test point) (no_fault count' used' point good')
    (fewer_points test (count + 1) (used + size_of point) (count' + 1) (used' + size_of point) points (omega arith) (omega arith) next parts.1)
    (fewer_points test (count + 1) (used + size_of point) count' used' points (omega arith) (omega arith) next parts.1)
  where
    keep : (b : Bool) → point_fault count' used' point ≡ None → first_fault (count' + 1) (used' + size_of point) (filter test points) ≡ None → first_fault count' used' (filter test points) ≡ None →
        first_fault count' used' (cond b (point ∷ filter test points) (filter test points)) ≡ None
    keep true one kept dropped = rw one kept
    keep false one kept dropped = dropped

-- ---- what each agent has

points-append : (agent : ℕ) (xs ys : List StandingPoint) → agents_points agent (xs ++ ys) ≡ agents_points agent xs ++ agents_points agent ys
points-append agent xs ys = ap (map (λ (s : StandingPoint). s.point)) (filter-append (is_points_agent agent) xs ys) ∙ map-append (λ (s : StandingPoint). s.point) (filter (is_points_agent agent) xs) (filter (is_points_agent agent) ys)

points-unsold : (agent current : ℕ) (standing : List StandingPoint) → agents_points agent (unsold current standing) ≡ filter (stays current) (agents_points agent standing)
points-unsold agent current standing =
    ap (map (λ (s : StandingPoint). s.point)) (filter-filter (is_points_agent agent) (λ s. not (reaches current s)) standing)
    ∙ sym (filter-map (stays current) (λ (s : StandingPoint). s.point) (filter (is_points_agent agent) standing))

none_of : (agent : ℕ) (standing : List StandingPoint) → filter (is_points_agent agent) (others_than agent standing) ≡ []
none_of agent [] = refl
none_of agent (s ∷ standing) = by_test (is_points_agent agent s) refl (none_of agent standing)
  where
    by_test : (b : Bool) → is_points_agent agent s ≡ b → filter (is_points_agent agent) (others_than agent standing) ≡ [] → filter (is_points_agent agent) (cond (not b) (s ∷ others_than agent standing) (others_than agent standing)) ≡ []
    by_test true h ih = ih
    by_test false h ih = rw (h, ih) refl

-- one agent's points are taken away, and those of the others stay
points-others : (agent b : ℕ) (standing : List StandingPoint) → agents_points b (others_than agent standing) ≡ (if agent == b then [] else agents_points b standing)
points-others agent b standing = by_test (agent == b) refl
  where
    by_test : (c : Bool) → (agent == b) ≡ c → agents_points b (others_than agent standing) ≡ cond c [] (agents_points b standing)
    by_test true h = subst (λ (a : ℕ). agents_points b (others_than a standing) ≡ []) (sym (number_is agent b h)) (ap (map (λ (s : StandingPoint). s.point)) (none_of b standing))
    by_test false h =
        ap (map (λ (s : StandingPoint). s.point))
        (filter-filter (is_points_agent b) (λ s. not (is_points_agent agent s)) standing
        ∙ filter_all (λ (s : StandingPoint). not (is_points_agent agent s)) (filter (is_points_agent b) standing) (all_passing (λ (s : StandingPoint). not (is_points_agent agent s) ≡ true) (is_points_agent b) standing other))
      where
        other : (s : StandingPoint) → is_points_agent b s ≡ true → not (is_points_agent agent s) ≡ true
        other s own = let is : is_points_agent agent s ≡ false = another agent b s.agent (number_is s.agent b own) h in rw is refl

-- ---- room for all

-- the points of the eight agents are all
counts : (standing : List StandingPoint) → AllByRecursion (λ (s : StandingPoint). s.agent ≤ 7) standing →
    length standing
    ≡ length (agents_points 0 standing) + length (agents_points 1 standing) + length (agents_points 2 standing) + length (agents_points 3 standing)
    + length (agents_points 4 standing) + length (agents_points 5 standing) + length (agents_points 6 standing) + length (agents_points 7 standing)
counts [] h = refl
counts (s ∷ standing) h = by_agent s.agent refl h.0 (counts standing h.1)
  where
    n : ℕ → ℕ
    n agent = length (agents_points agent standing)

    one : ℕ → ℕ → ℕ
    one owner agent = length (map (λ (x : StandingPoint). x.point) (cond (owner == agent) (s ∷ filter (is_points_agent agent) standing) (filter (is_points_agent agent) standing)))

    by_agent : (owner : ℕ) → s.agent ≡ owner → owner ≤ 7 → length standing ≡ n 0 + n 1 + n 2 + n 3 + n 4 + n 5 + n 6 + n 7 →
        suc (length standing) ≡ one s.agent 0 + one s.agent 1 + one s.agent 2 + one s.agent 3 + one s.agent 4 + one s.agent 5 + one s.agent 6 + one s.agent 7
    by_agent zero is le ih = rw is (omega (arith, ih))
    by_agent (suc zero) is le ih = rw is (omega (arith, ih))
    by_agent (suc (suc zero)) is le ih = rw is (omega (arith, ih))
    by_agent (suc (suc (suc zero))) is le ih = rw is (omega (arith, ih))
    by_agent (suc (suc (suc (suc zero)))) is le ih = rw is (omega (arith, ih))
    by_agent (suc (suc (suc (suc (suc zero))))) is le ih = rw is (omega (arith, ih))
    by_agent (suc (suc (suc (suc (suc (suc zero)))))) is le ih = rw is (omega (arith, ih))
    by_agent (suc (suc (suc (suc (suc (suc (suc zero))))))) is le ih = rw is (omega (arith, ih))
    by_agent (suc (suc (suc (suc (suc (suc (suc (suc m)))))))) is le ih = absurd (omega arith)

-- eight agents of at most 16 points have at most 128
room : (standing : List StandingPoint) → All (λ (s : StandingPoint). s.agent ≤ 7) standing → ((agent : ℕ) → length (agents_points agent standing) ≤ 16) → length standing ≤ 128
room standing owned few =
    omega (arith, counts standing (recursion_from_All (λ (s : StandingPoint). s.agent ≤ 7) standing owned), few 0, few 1, few 2, few 3, few 4, few 5, few 6, few 7)

-- no agent buys more units than it has standing
bought_le : (agent good price : ℕ) (standing : List StandingPoint) → bought (sales good price standing) agent ≤ total_size (agents_points agent standing)
bought_le agent good price [] = omega arith
bought_le agent good price (s ∷ standing) = by_tests (reaches price s) (is_points_agent agent s) refl (bought_le agent good price standing)
  where
    Bought : List StandingPoint → ℕ
    Bought kept = sum_by (λ (t : Trade). t.units) (filter (λ t. t.buyer == agent) (map (sale good price) kept))

    kept : List StandingPoint
    kept = filter (reaches price) standing

    own : List StandingPoint
    own = filter (is_points_agent agent) standing

    Total : List StandingPoint → ℕ
    Total xs = total_size (map (λ (x : StandingPoint). x.point) xs)

    by_tests : (r o : Bool) → is_points_agent agent s ≡ o → Bought kept ≤ Total own →
        sum_by (λ (t : Trade). t.units) (filter (λ t. t.buyer == agent) (map (sale good price) (cond r (s ∷ kept) kept)))
        ≤ total_size (map (λ (x : StandingPoint). x.point) (cond o (s ∷ own) own))
    by_tests true true is ih = rw is (omega (arith, ih, sum_by-cons (λ (t : Trade). t.units) (sale good price s) (filter (λ t. t.buyer == agent) (map (sale good price) kept)), sum_by-cons size_of s.point (map (λ (x : StandingPoint). x.point) own)))
    by_tests true false is ih = rw is ih
    by_tests false true is ih = omega (arith, ih, sum_by-cons size_of s.point (map (λ (x : StandingPoint). x.point) own))
    by_tests false false is ih = ih

-- ---- a sound flight stays sound

pub sound_forgotten : (bound : ℤ) (price : ℕ) (standing : List StandingPoint) (agent : ℕ) → IsFlightSound bound price standing → IsFlightSound bound price (others_than agent standing)
sound_forgotten bound price standing agent sound = record {
  bound_from = sound.bound_from;
  bound_to = sound.bound_to;
  price_from = sound.price_from;
  price_to = sound.price_to;
  owned = All-filter (λ s. not (is_points_agent agent s)) (λ (s : StandingPoint). s.agent ≤ 7) standing sound.owned;
  limited = λ b. ap left_fault (points-others agent b standing) ∙ by_test b (agent == b);
}
  where
    by_test : (b : ℕ) (c : Bool) → left_fault (cond c [] (agents_points b standing)) ≡ None
    by_test b true = refl
    by_test b false = sound.limited b

pub sound_placed : (bound : ℤ) (price : ℕ) (standing : List StandingPoint) (agent : ℕ) (points : List Point) → agent ≤ 7 → fault_of points ≡ None → IsFlightSound bound price standing →
    IsFlightSound bound price (others_than agent standing ++ owned_by agent points)
sound_placed bound price standing agent points le h sound = record {
  bound_from = sound.bound_from;
  bound_to = sound.bound_to;
  price_from = sound.price_from;
  price_to = sound.price_to;
  owned = All-append Owned (others_than agent standing) (owned_by agent points) (All-filter (λ s. not (is_points_agent agent s)) Owned standing sound.owned) (All-from_recursion Owned (owned_by agent points) (mine points));
  limited = λ b. ap left_fault (both b) ∙ by_test b (agent == b);
}
  where
    Owned : StandingPoint → Type 0
    Owned s = s.agent ≤ 7

    both : (b : ℕ) → agents_points b (others_than agent standing ++ owned_by agent points) ≡ (if agent == b then [] else agents_points b standing) ++ (if agent == b then points else [])
    both b = points-append b (others_than agent standing) (owned_by agent points) ∙ rw (points-others agent b standing, owned_points b agent points) refl

    mine : (ps : List Point) → AllByRecursion Owned (owned_by agent ps)
    mine [] = tt
    mine (p ∷ ps) = (le, mine ps)

    by_test : (b : ℕ) (c : Bool) → left_fault (cond c [] (agents_points b standing) ++ cond c points []) ≡ None
    by_test b true = bid_left points h
    by_test b false = ap left_fault (append-nil (agents_points b standing)) ∙ sound.limited b

pub sound_unsold : (bound : ℤ) (price current : ℕ) (standing : List StandingPoint) → IsFlightSound bound price standing → IsFlightSound bound price (unsold current standing)
sound_unsold bound price current standing sound = record {
  bound_from = sound.bound_from;
  bound_to = sound.bound_to;
  price_from = sound.price_from;
  price_to = sound.price_to;
  owned = All-filter (λ s. not (reaches current s)) (λ (s : StandingPoint). s.agent ≤ 7) standing sound.owned;
  limited = λ agent. ap left_fault (points-unsold agent current standing) ∙ fewer_points (stays current) 0 0 0 0 (agents_points agent standing) (omega arith) (omega arith) (omega arith) (sound.limited agent);
}

pub sound_priced : (bound : ℤ) (price new : ℕ) (standing : List StandingPoint) → 150 ≤ new → new ≤ 800 → IsFlightSound bound price standing → IsFlightSound bound new standing
sound_priced bound price new standing from to sound = record {
  bound_from = sound.bound_from;
  bound_to = sound.bound_to;
  price_from = from;
  price_to = to;
  owned = sound.owned;
  limited = sound.limited;
}

-- the points that a bid offers beside those of the others, by the steps that put them together
pub placed_is : (number agent : ℕ) (standing kept placed : List StandingPoint) (given points : List Point) → number ≡ agent → given ≡ points →
    kept ≡ others_than number standing → placed ≡ kept ++ owned_by agent given → placed ≡ others_than agent standing ++ owned_by agent points
placed_is number agent standing kept placed given points n g k p = p ∙ rw (k, n, g) refl

pub length-placed : (number agent : ℕ) (standing kept : List StandingPoint) (given points : List Point) → number ≡ agent → given ≡ points → kept ≡ others_than number standing →
    length kept + length given ≡ length (others_than agent standing ++ owned_by agent points)
length-placed number agent standing kept given points n g k =
    let whose : Point → StandingPoint = λ p. record { agent = agent; point = p } in
    rw (k, n, g) (sym (length-append (others_than agent standing) (owned_by agent points) ∙ ap (λ (m : ℕ). length (others_than agent standing) + m) (length-map points whose)))

-- at most 16 points of each agent stand, and 128 of all
pub few_points : (bound : ℤ) (price : ℕ) (standing : List StandingPoint) (agent : ℕ) → IsFlightSound bound price standing → length (agents_points agent standing) ≤ 16
few_points bound price standing agent sound = list_points (agents_points agent standing) (sound.limited agent)

pub few_of_all : (bound : ℤ) (price : ℕ) (standing : List StandingPoint) → IsFlightSound bound price standing → length standing ≤ 128
few_of_all bound price standing sound = room standing sound.owned (λ agent. few_points bound price standing agent sound)

-- an agent buys at most 16 units
pub few_bought : (bound : ℤ) (price current good agent : ℕ) (standing : List StandingPoint) → IsFlightSound bound price standing → bought (sales good current standing) agent ≤ 16
few_bought bound price current good agent standing sound =
    omega (arith, bought_le agent good current standing, few_units 0 0 (agents_points agent standing) (sound.limited agent) (omega arith))
