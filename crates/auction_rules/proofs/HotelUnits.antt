-- What stands in a hotel: the units of the last bids, any two of them in the order of precedence.
use Rattle.std.proofs.Common.{◌≡◌, ℕ, zero, suc, ◌+◌, ◌<◌, ◌≤◌, min, Bool, true, false, cond, List, [], ◌∷◌, ◌++◌, length, refl, sym, ap, ◌∙◌, subst, arith, Option, Some, None, inl, inr, ◌⊎◌, ◌&&◌, ◌==◌, ◌≢◌, if◌then◌else◌, flat_map}
use Rattle.std.specs.Prelude.{⊤}
use Rattle.std.specs.List.{AllByRecursion}
use Rattle.std.proofs.lemmas.Bool.Decides.{nat_tests}
use Rattle.auction_rules.specs.{Point, size_of, buys_of, Call, agents, block, point_units, units_from, units_of, Entry, is_admission, is_closed, bid_after, last_bid, bid_units, units_of_last, gone, stand, precedes, sold_units}
use Rattle.tac_base.specs.declared.calls.Call.TheVariants.{Bid, Withdraw, Own as OwnCall, Update, Publish, Close}
use Rattle.auction_rules.specs.declared.units.Placed.{Placed}
use Rattle.auction_rules.specs.declared.units.BidUnit.{BidUnit}
use Rattle.auction_rules.specs.declared.rules.Rules.TheVariants.{Hotel as HotelRules}
use Rattle.auction_rules.proofs.Standing.{Each, each-append, each-weaker, IsPlaced, each-placed, IsBidOf, last_is}
use Rattle.auction_rules.proofs.AgentUnits.{without_nothing}
use Rattle.auction_rules.proofs.Ranks.{In, AreOrdered, ranked}

-- ---- nothing is gone from a hotel

either_none : {A : Type 0} (b : Bool) (xs : List A) → cond b [] [] ++ xs ≡ xs
either_none true xs = refl
either_none false xs = refl

nothing_gone : (rooms : ℕ) (live : Bool) (past : List Entry) → gone (HotelRules rooms live) past ≡ []
nothing_gone rooms live [] = refl
nothing_gone rooms live (e ∷ past) = either_none (is_admission e.reply) (gone (HotelRules rooms live) past) ∙ nothing_gone rooms live past

-- in an open hotel the units of the last bids stand
pub open_stand : (rooms : ℕ) (live : Bool) (past : List Entry) → is_closed past ≡ false → stand (HotelRules rooms live) past ≡ bid_units past
open_stand rooms live past h = rw (h, nothing_gone rooms live past) (without_nothing (bid_units past))

-- ---- the order of precedence

pub precedes_not_self : (u : BidUnit) → precedes u u ≡ false
precedes_not_self u = grind (arith, nat_tests)

pub precedes_through : (u v w : BidUnit) → precedes u v ≡ true → precedes v w ≡ true → precedes u w ≡ true
precedes_through u v w h k = grind (arith, nat_tests)

-- two units at different places are in order
other_position : (u v : BidUnit) → u.position ≢ v.position → precedes u v ≡ false → precedes v u ≡ true
other_position u v differ h = grind (arith, nat_tests)

other_index : (u v : BidUnit) → u.index < v.index → precedes u v ≡ false → precedes v u ≡ true
other_index u v less h = grind (arith, nat_tests)

abbrev pub InOrder : List BidUnit → Type 0
InOrder units = AreOrdered precedes precedes_not_self precedes_through units

in-append : {A : Type 0} (x : A) (ys zs : List A) → In x (ys ++ zs) → In x ys ⊎ In x zs
in-append x [] zs h = inr h
in-append x (y ∷ ys) zs (inl h) = inl (inl h)
in-append x (y ∷ ys) zs (inr h) = keep (in-append x ys zs h)
  where
    keep : In x ys ⊎ In x zs → In x (y ∷ ys) ⊎ In x zs
    keep (inl k) = inl (inr k)
    keep (inr k) = inr k

pub each_in : (P : BidUnit → Type 0) (u : BidUnit) (us : List BidUnit) → Each P us → In u us → P u
each_in P u [] h is = absurd is
each_in P u (v ∷ us) h (inl same) = subst P (sym same) h.0
each_in P u (v ∷ us) h (inr is) = each_in P u us h.1 is

order-append : (xs ys : List BidUnit) → InOrder xs → InOrder ys → ((x y : BidUnit) → In x xs → In y ys → precedes x y ≡ false → precedes y x ≡ true) → InOrder (xs ++ ys)
order-append [] ys h k across = k
order-append (x ∷ xs) ys h k across = (first, order-append xs ys h.1 k (λ a b in_a in_b. across a b (inr in_a) in_b))
  where
    first : (y : BidUnit) → In y (xs ++ ys) → precedes x y ≡ false → precedes y x ≡ true
    first y is = by_part (in-append y xs ys is)
      where
        by_part : In y xs ⊎ In y ys → precedes x y ≡ false → precedes y x ≡ true
        by_part (inl in_xs) = h.0 y in_xs
        by_part (inr in_ys) = across x y (inl refl) in_ys

-- ---- one bid

-- the indices are from low on and below high
abbrev IsNumbered : ℕ → ℕ → BidUnit → Type 0
IsNumbered low high u = (low ≤ u.index) × (u.index < high)

wider : (low low' high high' : ℕ) (us : List BidUnit) → low' ≤ low → high ≤ high' → Each (IsNumbered low high) us → Each (IsNumbered low' high') us
wider low low' high high' us down up h = each-weaker (IsNumbered low high) (IsNumbered low' high') us (λ u k. (let from = k.0 in omega (arith, from, down), let below = k.1 in omega (arith, below, up))) h

rising_order : (low middle high : ℕ) (xs ys : List BidUnit) → Each (IsNumbered low middle) xs → Each (IsNumbered middle high) ys → InOrder xs → InOrder ys → InOrder (xs ++ ys)
rising_order low middle high xs ys below above h k =
    order-append xs ys h k (λ x y in_x in_y. let first = each_in (IsNumbered low middle) x xs below in_x in let second = each_in (IsNumbered middle high) y ys above in_y in other_index x y (omega (arith, first.1, second.0)))

block_numbered : (first : BidUnit) (n : ℕ) → Each (IsNumbered first.index (first.index + n)) (block first n)
block_numbered first zero = tt
block_numbered first (suc n) =
    each-append (IsNumbered first.index (first.index + suc n)) (block first n) (record first { index = first.index + n } ∷ [])
    (wider first.index first.index (first.index + n) (first.index + suc n) (block first n) (omega arith) (omega arith) (block_numbered first n)) ((omega arith, omega arith), tt)

one_ordered : (u : BidUnit) → InOrder (u ∷ [])
one_ordered u = (λ y is. absurd is, tt)

block_ordered : (first : BidUnit) (n : ℕ) → InOrder (block first n)
block_ordered first zero = tt
block_ordered first (suc n) =
    rising_order first.index (first.index + n) (first.index + suc n) (block first n) (record first { index = first.index + n } ∷ []) (block_numbered first n) ((omega arith, omega arith), tt)
    (block_ordered first n) (one_ordered (record first { index = first.index + n }))

-- how many units the points have
abbrev size : List Point → ℕ
size [] = 0
size (point ∷ points) = size_of point + size points

bid_numbered : (agent position from : ℕ) (points : List Point) → Each (IsNumbered from (from + size points)) (units_from agent position from points)
bid_numbered agent position from [] = tt
bid_numbered agent position from (point ∷ points) =
    each-append (IsNumbered from (from + (size_of point + size points))) (point_units agent position from point) (units_from agent position (from + size_of point) points)
    (wider from from (from + size_of point) (from + (size_of point + size points)) (point_units agent position from point) (omega arith) (omega arith) (block_numbered (record { agent = agent; buys = buys_of point.units; price = point.price; position = position; index = from }) (size_of point)))
    (wider (from + size_of point) from (from + size_of point + size points) (from + (size_of point + size points)) (units_from agent position (from + size_of point) points) (omega arith) (omega arith) (bid_numbered agent position (from + size_of point) points))

bid_ordered : (agent position from : ℕ) (points : List Point) → InOrder (units_from agent position from points)
bid_ordered agent position from [] = tt
bid_ordered agent position from (point ∷ points) =
    let first : BidUnit = record { agent = agent; buys = buys_of point.units; price = point.price; position = position; index = from } in
    rising_order from (from + size_of point) (from + size_of point + size points) (point_units agent position from point) (units_from agent position (from + size_of point) points)
    (block_numbered first (size_of point)) (bid_numbered agent position (from + size_of point) points) (block_ordered first (size_of point)) (bid_ordered agent position (from + size_of point) points)

last_ordered : (bid : Option Placed) → InOrder (units_of_last bid)
last_ordered None = tt
last_ordered (Some bid) = bid_ordered bid.agent bid.position 0 bid.points

-- ---- the bids of all agents

-- who made the call at a position
abbrev owner : List Entry → ℕ → ℕ
owner [] position = 0
owner (e ∷ past) position = if position == length past then e.caller else owner past position

abbrev IsOwner : List Entry → Option Placed → Type 0
IsOwner past None = ⊤
IsOwner past (Some bid) = (owner past bid.position ≡ bid.agent) × (bid.position < length past)

owner_more : (e : Entry) (past : List Entry) (bid : Option Placed) → IsOwner past bid → IsOwner (e ∷ past) bid
owner_more e past None h = tt
owner_more e past (Some bid) h =
    let below = h.1 in
    let earlier : (bid.position == length past) ≡ false = not_equal bid.position (length past) below in
    (rw earlier h.0, omega (arith, below))
  where
    not_equal : (m n : ℕ) → m < n → (m == n) ≡ false
    not_equal m n lt = grind (arith, nat_tests)

owner_after : (e : Entry) (past : List Entry) (call : Call) (old : Option Placed) → IsOwner past old → IsOwner (e ∷ past) (bid_after e.caller (length past) call old)
owner_after e past (Bid points) old h = (rw (same (length past)) refl, omega arith)
  where
    same : (n : ℕ) → (n == n) ≡ true
    same n = grind (arith, nat_tests)
owner_after e past Withdraw old h = tt
owner_after e past OwnCall old h = owner_more e past old h
owner_after e past (Update tick draw) old h = owner_more e past old h
owner_after e past Publish old h = owner_more e past old h
owner_after e past Close old h = owner_more e past old h

owner_is : (agent : ℕ) (past : List Entry) → IsOwner past (last_bid agent past)
owner_is agent [] = tt
owner_is agent (e ∷ past) = by_test (is_admission e.reply && (e.caller == agent)) (owner_is agent past)
  where
    by_test : (b : Bool) → IsOwner past (last_bid agent past) → IsOwner (e ∷ past) (cond b (bid_after e.caller (length past) e.call (last_bid agent past)) (last_bid agent past))
    by_test true h = owner_after e past e.call (last_bid agent past) h
    by_test false h = owner_more e past (last_bid agent past) h

-- an agent's units were made by its own call
abbrev IsMade : List Entry → ℕ → BidUnit → Type 0
IsMade past agent u = (u.agent ≡ agent) × (owner past u.position ≡ agent)

made_by : (past : List Entry) (agent : ℕ) (bid : Option Placed) → IsOwner past bid → ((placed : Placed) → bid ≡ Some placed → placed.agent ≡ agent) → Each (IsMade past agent) (units_of_last bid)
made_by past agent None h own = tt
made_by past agent (Some bid) h own =
    let is = own bid refl in
    each-weaker (IsPlaced bid.agent bid.position) (IsMade past agent) (units_of bid) (λ u k. (k.0 ∙ is, ap (owner past) k.1 ∙ h.0 ∙ is)) (each-placed bid.agent bid.position 0 bid.points)

own_made : (agent : ℕ) (past : List Entry) → Each (IsMade past agent) (units_of_last (last_bid agent past))
own_made agent past = made_by past agent (last_bid agent past) (owner_is agent past) (λ placed is. whose (last_bid agent past) (last_is agent past) placed is)
  where
    whose : (bid : Option Placed) → IsBidOf agent (length past) bid → (placed : Placed) → bid ≡ Some placed → placed.agent ≡ agent
    whose None h placed is = absurd cc
    whose (Some bid) h placed is = let same : bid ≡ placed = cc in ap (λ (p : Placed). p.agent) (sym same) ∙ h.0

-- units of two agents are in order, whichever comes first
apart : (past : List Entry) (a b : ℕ) (u v : BidUnit) → a ≢ b → IsMade past a u → IsMade past b v → precedes u v ≡ false → precedes v u ≡ true
apart past a b u v differ made_u made_v = other_position u v (λ same. differ (sym made_u.1 ∙ ap (owner past) same ∙ made_v.1))

-- no two numbers of a list are the same
abbrev Apart : List ℕ → Type 0
Apart [] = ⊤
Apart (a ∷ some) = AllByRecursion (λ b. a ≢ b) some × Apart some

-- the agents of a list, each with the units of its last bid
all_ordered : (past : List Entry) (some : List ℕ) → Apart some → InOrder (flat_map (λ a. units_of_last (last_bid a past)) some)
all_ordered past [] h = tt
all_ordered past (a ∷ some) h =
    order-append (units_of_last (last_bid a past)) (flat_map (λ b. units_of_last (last_bid b past)) some) (last_ordered (last_bid a past)) (all_ordered past some h.1)
    (λ x y in_x in_y. across x y (each_in (IsMade past a) x (units_of_last (last_bid a past)) (own_made a past) in_x) some h.0 in_y)
  where
    across : (x y : BidUnit) → IsMade past a x → (others : List ℕ) → AllByRecursion (λ b. a ≢ b) others → In y (flat_map (λ b. units_of_last (last_bid b past)) others) → precedes x y ≡ false → precedes y x ≡ true
    across x y made [] differ is = absurd is
    across x y made (b ∷ others) differ is =
        by_part (across x y made others differ.1) (in-append y (units_of_last (last_bid b past)) (flat_map (λ c. units_of_last (last_bid c past)) others) is)
      where
        by_part : (In y (flat_map (λ c. units_of_last (last_bid c past)) others) → precedes x y ≡ false → precedes y x ≡ true) →
            In y (units_of_last (last_bid b past)) ⊎ In y (flat_map (λ c. units_of_last (last_bid c past)) others) → precedes x y ≡ false → precedes y x ≡ true
        by_part later (inl own) = apart past a b x y differ.0 made (each_in (IsMade past b) y (units_of_last (last_bid b past)) (own_made b past) own)
        by_part later (inr is) = later is

agents_apart : Apart agents
agents_apart = search (arith)

-- the units of the last bids are in order
pub bids_ordered : (past : List Entry) → InOrder (bid_units past)
bids_ordered past = all_ordered past agents agents_apart

-- what stands in a hotel is in order
pub stand_ordered : (rooms : ℕ) (live : Bool) (past : List Entry) → InOrder (stand (HotelRules rooms live) past)
stand_ordered rooms live past = by_state (is_closed past) refl
  where
    by_state : (b : Bool) → is_closed past ≡ b → InOrder (stand (HotelRules rooms live) past)
    by_state true h = rw h tt
    by_state false h = rw (open_stand rooms live past h) (bids_ordered past)

-- a closing sells as many units as stand, up to the rooms
pub sells_what_stands : (rooms : ℕ) (live : Bool) (past : List Entry) → sold_units rooms (stand (HotelRules rooms live) past) ≡ min rooms (length (stand (HotelRules rooms live) past))
sells_what_stands rooms live past = ranked precedes precedes_not_self precedes_through rooms (stand (HotelRules rooms live) past) (stand_ordered rooms live past)
