-- The units of a bid, block by block.
use Rattle.std.proofs.Common.{◌≡◌, ℕ, zero, suc, ◌+◌, ◌<◌, ◌≤◌, List, [], ◌∷◌, ◌++◌, length, refl, sym, ap, arith, append_assoc, length-append, add-one, drop, drop-cons, get_or, All}
use Rattle.std.specs.List.{AllByRecursion}
use Rattle.std.proofs.lemmas.List.Elements.{All-append, recursion_from_All, All-from_recursion}
use Rattle.auction_rules.specs.{Point, size_of, buys_of, block, units_from, point_units, units_of}
use Rattle.auction_rules.specs.declared.units.BidUnit.{BidUnit}
use Rattle.auction_rules.specs.declared.units.Placed.{Placed}

-- one more unit of a block
pub block_more : (out : List BidUnit) (u : BidUnit) (i : ℕ) → (out ++ block u i) ++ record u { index = u.index + i } ∷ [] ≡ out ++ block u (i + 1)
block_more out u i = rw (add-one, append_assoc)

pub length-block : (u : BidUnit) (n : ℕ) → length (block u n) ≡ n
length-block u zero = refl
length-block u (suc n) = simp length-append (let more : length (block u n) ≡ n = length-block u n in omega (arith, more))

pub length-point_units : (agent position from : ℕ) (point : Point) → length (point_units agent position from point) ≡ size_of point
length-point_units agent position from point = length-block _ _

-- the units of one more point
pub units_from_more : (out : List BidUnit) (agent position from : ℕ) (points : List Point) (i : ℕ) (d : Point) → i < length points →
    (out ++ point_units agent position from (get_or points i d)) ++ units_from agent position (from + size_of (get_or points i d)) (drop (i + 1) points)
    ≡ out ++ units_from agent position from (drop i points)
units_from_more out agent position from points i d h = rw (append_assoc, add-one) (ap (λ (ps : List Point). out ++ units_from agent position from ps) (sym (drop-cons points i d h)))

-- no unit costs more than 10000
abbrev Cheap : List BidUnit → Type 0
Cheap units = All (λ (u : BidUnit). u.price ≤ 10000) units

cheap-append : (us vs : List BidUnit) → Cheap us → Cheap vs → Cheap (us ++ vs)
cheap-append us vs h k = All-append (λ (u : BidUnit). u.price ≤ 10000) us vs h k

cheap-none : Cheap []
cheap-none = All-from_recursion (λ (u : BidUnit). u.price ≤ 10000) [] tt

cheap-block : (first : BidUnit) (n : ℕ) → first.price ≤ 10000 → Cheap (block first n)
cheap-block first zero h = cheap-none
cheap-block first (suc n) h =
    cheap-append (block first n) (record first { index = first.index + n } ∷ []) (cheap-block first n h)
    (All-from_recursion (λ (u : BidUnit). u.price ≤ 10000) (record first { index = first.index + n } ∷ []) (h, tt))

cheap-units_from : (agent position from : ℕ) (points : List Point) → AllByRecursion (λ (p : Point). p.price ≤ 10000) points → Cheap (units_from agent position from points)
cheap-units_from agent position from [] h = cheap-none
cheap-units_from agent position from (point ∷ points) h =
    cheap-append (point_units agent position from point) (units_from agent position (from + size_of point) points)
    (cheap-block (record { agent = agent; buys = buys_of point.units; price = point.price; position = position; index = from }) (size_of point) h.0)
    (cheap-units_from agent position (from + size_of point) points h.1)

-- no unit costs more than 10000 if no point does
pub cheap-units_of : (bid : Placed) → All (λ (p : Point). p.price ≤ 10000) bid.points → All (λ (u : BidUnit). u.price ≤ 10000) (units_of bid)
cheap-units_of bid h = cheap-units_from bid.agent bid.position 0 bid.points (recursion_from_All (λ (p : Point). p.price ≤ 10000) bid.points h)
