-- Sums over points, and trades over agents.
use Rattle.std.proofs.Common.{◌≡◌, ℕ, ◌+◌, ◌<◌, ◌≤◌, List, [], ◌∷◌, ◌++◌, length, refl, ap, ◌∙◌, arith, get_or, take, Option, Some, None, filter_map, option_to_list}
use Rattle.std.proofs.lemmas.List.{take_more}
use Rattle.std.proofs.lemmas.List.Sums.{sum_by_more_le_part}
use Rattle.std.proofs.lemmas.List.Elements.{filter_map-append}
use Rattle.std.proofs.lemmas.Bool.Decides.{nat_tests}
use Rattle.std.specs.List.{cons_option}
use Rattle.hotel_book.specs.Prelude.{Point, Trade, total_size, size_of}
use Rattle.auction_rules.specs.Refusals.{offered}
use Rattle.auction_rules.proofs.Counts.{offered_by}

offered_by_le : (at : ℕ) (point : Point) → offered_by at point ≤ size_of point
offered_by_le at point = grind (arith, nat_tests)

-- no more is offered than the points have
pub offered_one : (points : List Point) (at i : ℕ) (d : Point) → i < length points → offered (take i points) at + offered_by at (get_or points i d) ≤ total_size points
offered_one points at i d h =
    omega (arith, sum_by_more_le_part (offered_by at) size_of points i d h (offered_by_le at), offered_by_le at (get_or points i d))

-- one more agent
closing_more : (f : ℕ → Option Trade) (agents : List ℕ) (i : ℕ) (d : ℕ) → i < length agents → filter_map f (take (i + 1) agents) ≡ filter_map f (take i agents) ++ option_to_list (f (get_or agents i d))
closing_more f agents i d h =
    ap (filter_map f) (take_more agents i d h) ∙ filter_map-append f (take i agents) (get_or agents i d ∷ []) ∙ ap (λ (ts : List Trade). filter_map f (take i agents) ++ ts) (one (f (get_or agents i d)))
  where
    one : (t : Option Trade) → cons_option t [] ≡ option_to_list t
    one None = refl
    one (Some t) = refl

-- the trades with one more agent
pub trades_more : (f : ℕ → Option Trade) (agents : List ℕ) (i agent : ℕ) (earlier now : List Trade) (t : Option Trade) →
    i < length agents → t ≡ f (get_or agents i agent) → earlier ≡ filter_map f (take i agents) → now ≡ earlier ++ option_to_list t →
    now ≡ filter_map f (take (i + 1) agents)
trades_more f agents i agent earlier now t h is so_far push = let more = closing_more f agents i agent h in cc
