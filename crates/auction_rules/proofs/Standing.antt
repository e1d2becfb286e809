-- Which units of the last bids stand, for all rules: those that no call traded away; and what one entry changes in them.
use Rattle.std.proofs.Common.{◌≡◌, ℕ, zero, suc, ◌+◌, ◌<◌, ◌≤◌, Bool, true, false, cond, List, [], ◌∷◌, ◌++◌, length, map, refl, sym, ap, ◌∙◌, arith, Option, Some, None, subst, get_or, not, ◌&&◌, ◌||◌, ◌==◌, ◌≢◌, filter, ℤ, pos, negsuc, unsigned_abs, flat_map, find}
use Rattle.std.specs.List.{AllByRecursion}
use Rattle.std.proofs.lemmas.Bool.Decides.{nat_tests}
use Rattle.std.proofs.lemmas.List.Folds.{list_any-append}
use Rattle.std.proofs.lemmas.List.Sums.{sum_by-cons}
use Rattle.std.proofs.lemmas.Bool.{and_parts, and_right, or_left, or_right}
use Rattle.auction_rules.specs.{Point, size_of, buys_of, Call, agents, block, point_units, units_from, units_of, same_side, same_unit, among, without, common_units, Entry, is_admission, is_closed, bid_after, last_bid, last_bids, bid_units, units_of_last, units_of_bids, looked_at, arriving, faces, best, if_crossing, partner, pair_with, not_taken, pairs, units_of_pairs, ticket_gone, gone_by, left_standing, gone, stand, signed_as, left_points}
use Rattle.tac_base.specs.declared.calls.Call.TheVariants.{Bid, Withdraw, Own as OwnCall, Update, Publish, Close}
use Rattle.auction_rules.specs.declared.units.Placed.{Placed}
use Rattle.auction_rules.specs.declared.units.BidUnit.{BidUnit}
use Rattle.auction_rules.specs.declared.rules.Rules.{Rules}
use Rattle.auction_rules.specs.declared.rules.Rules.TheVariants.{Flight as FlightRules, Hotel as HotelRules, Tickets as TicketRules}
use Rattle.auction_rules.proofs.Blocks.{length-point_units}
use Rattle.auction_rules.proofs.Agents.{agents_get}

-- ---- units of which each has a property

abbrev pub Each : (BidUnit → Type 0) → List BidUnit → Type 0
Each P units = AllByRecursion P units

pub each-append : (P : BidUnit → Type 0) (us vs : List BidUnit) → Each P us → Each P vs → Each P (us ++ vs)
each-append P [] vs h k = k
each-append P (u ∷ us) vs h k = (h.0, each-append P us vs h.1 k)

pub each-front : (P : BidUnit → Type 0) (us vs : List BidUnit) → Each P (us ++ vs) → Each P us
each-front P [] vs h = tt
each-front P (u ∷ us) vs h = (h.0, each-front P us vs h.1)

pub each-back : (P : BidUnit → Type 0) (us vs : List BidUnit) → Each P (us ++ vs) → Each P vs
each-back P [] vs h = h
each-back P (u ∷ us) vs h = each-back P us vs h.1

pub each-filter : (P : BidUnit → Type 0) (test : BidUnit → Bool) (us : List BidUnit) → Each P us → Each P (filter test us)
each-filter P test [] h = tt
each-filter P test (u ∷ us) h = keep (test u) (each-filter P test us h.1)
  where
    keep : (b : Bool) → Each P (filter test us) → Each P (cond b (u ∷ filter test us) (filter test us))
    keep true k = (h.0, k)
    keep false k = k

pub each-weaker : (P Q : BidUnit → Type 0) (us : List BidUnit) → ((u : BidUnit) → P u → Q u) → Each P us → Each Q us
each-weaker P Q [] f h = tt
each-weaker P Q (u ∷ us) f h = (f u h.0, each-weaker P Q us f h.1)

pub each-both : (P Q R : BidUnit → Type 0) (us : List BidUnit) → ((u : BidUnit) → P u → Q u → R u) → Each P us → Each Q us → Each R us
each-both P Q R [] f h k = tt
each-both P Q R (u ∷ us) f h k = (f u h.0 k.0, each-both P Q R us f h.1 k.1)

pub each-block : (P : BidUnit → Type 0) (first : BidUnit) (n : ℕ) → ((i : ℕ) → P (record first { index = i })) → Each P (block first n)
each-block P first zero f = tt
each-block P first (suc n) f = each-append P (block first n) (record first { index = first.index + n } ∷ []) (each-block P first n f) (f (first.index + n), tt)

-- ---- the owner of a bid's units, and its position

abbrev pub IsPlaced : ℕ → ℕ → BidUnit → Type 0
IsPlaced agent position u = (u.agent ≡ agent) × (u.position ≡ position)

pub each-placed : (agent position from : ℕ) (points : List Point) → Each (IsPlaced agent position) (units_from agent position from points)
each-placed agent position from [] = tt
each-placed agent position from (point ∷ points) =
    each-append (IsPlaced agent position) (point_units agent position from point) (units_from agent position (from + size_of point) points)
    (each-block (IsPlaced agent position) (record { agent = agent; buys = buys_of point.units; price = point.price; position = position; index = from }) (size_of point) (λ i. (refl, refl)))
    (each-placed agent position (from + size_of point) points)

pub bid_owned : (bid : Placed) → Each (λ u. u.agent ≡ bid.agent) (units_of bid)
bid_owned bid = each-weaker (IsPlaced bid.agent bid.position) (λ u. u.agent ≡ bid.agent) (units_of bid) (λ u k. k.0) (each-placed bid.agent bid.position 0 bid.points)

-- all positions are below n
abbrev pub Below : ℕ → List BidUnit → Type 0
Below n units = Each (λ (u : BidUnit). u.position < n) units

below-more : (n : ℕ) (us : List BidUnit) → Below n us → Below (suc n) us
below-more n us h = each-weaker (λ (u : BidUnit). u.position < n) (λ (u : BidUnit). u.position < suc n) us (λ u k. omega arith) h

here_below : (agent n from : ℕ) (points : List Point) → Below (suc n) (units_from agent n from points)
here_below agent n from points =
    each-weaker (IsPlaced agent n) (λ (u : BidUnit). u.position < suc n) (units_from agent n from points) (λ u k. omega (arith, k.1)) (each-placed agent n from points)

-- a bid is the agent's, and was made below a position
abbrev pub IsBidOf : ℕ → ℕ → Option Placed → Type 0
IsBidOf agent n None = Unit {0}
IsBidOf agent n (Some bid) = (bid.agent ≡ agent) × (bid.position < n)

bid_more : (agent n : ℕ) (bid : Option Placed) → IsBidOf agent n bid → IsBidOf agent (suc n) bid
bid_more agent n None h = tt
bid_more agent n (Some bid) h = (h.0, omega (arith, h.1))

after_is : (agent caller n : ℕ) (call : Call) (old : Option Placed) → caller ≡ agent → IsBidOf agent n old → IsBidOf agent (suc n) (bid_after caller n call old)
after_is agent caller n (Bid points) old own h = (own, omega arith)
after_is agent caller n Withdraw old own h = tt
after_is agent caller n OwnCall old own h = bid_more agent n old h
after_is agent caller n (Update tick draw) old own h = bid_more agent n old h
after_is agent caller n Publish old own h = bid_more agent n old h
after_is agent caller n Close old own h = bid_more agent n old h

own_test : (a : Bool) (caller agent : ℕ) → (a && (caller == agent)) ≡ true → caller ≡ agent
own_test true caller agent h = grind (arith, nat_tests)
own_test false caller agent h = absurd cc

-- an agent's last bid is its own and lies in the past
pub last_is : (agent : ℕ) (past : List Entry) → IsBidOf agent (length past) (last_bid agent past)
last_is agent [] = tt
last_is agent (e ∷ past) = by_test (is_admission e.reply && (e.caller == agent)) refl (last_is agent past)
  where
    by_test : (b : Bool) → (is_admission e.reply && (e.caller == agent)) ≡ b → IsBidOf agent (length past) (last_bid agent past) →
        IsBidOf agent (suc (length past)) (cond b (bid_after e.caller (length past) e.call (last_bid agent past)) (last_bid agent past))
    by_test true own h = after_is agent e.caller (length past) e.call (last_bid agent past) (own_test (is_admission e.reply) e.caller agent own) h
    by_test false own h = bid_more agent (length past) (last_bid agent past) h

-- what the units of an agent's bids have that were made in the past
pub last_units : (P : BidUnit → Type 0) (agent n : ℕ) (bid : Option Placed) → IsBidOf agent n bid → ((u : BidUnit) → u.agent ≡ agent → u.position < n → P u) → Each P (units_of_last bid)
last_units P agent n None h f = tt
last_units P agent n (Some bid) h f =
    each-weaker (IsPlaced bid.agent bid.position) P (units_of bid) (λ u k. f u (k.0 ∙ h.0) (omega (arith, k.1, h.1))) (each-placed bid.agent bid.position 0 bid.points)

-- ---- units among others

pub side_is : (b c : Bool) → same_side b c ≡ true → b ≡ c
side_is true true h = refl
side_is true false h = cc
side_is false true h = cc
side_is false false h = refl

pub number_is : (m n : ℕ) → (m == n) ≡ true → m ≡ n
number_is m n h = grind (arith, nat_tests)

pub same_self : (u : BidUnit) → same_unit u u ≡ true
same_self u = by_side u.buys refl
  where
    by_side : (b : Bool) → u.buys ≡ b → same_unit u u ≡ true
    by_side true h = grind (arith, nat_tests, h)
    by_side false h = grind (arith, nat_tests, h)

pub same_is : (u v : BidUnit) → same_unit u v ≡ true → u ≡ v
same_is u v h =
    let one = and_parts (u.agent == v.agent) _ h in
    let two = and_parts (same_side u.buys v.buys) _ one.1 in
    let three = and_parts (u.price == v.price) _ two.1 in
    let four = and_parts (u.position == v.position) (u.index == v.index) three.1 in
    let agent = number_is u.agent v.agent one.0 in
    let buys = side_is u.buys v.buys two.0 in
    let price = number_is u.price v.price three.0 in
    let position = number_is u.position v.position four.0 in
    let index = number_is u.index v.index four.1 in
    λ i. record { agent = agent i; buys = buys i; price = price i; position = position i; index = index i }

pub among-filter : (u : BidUnit) (test : BidUnit → Bool) (xs : List BidUnit) → among u (filter test xs) ≡ (among u xs && test u)
among-filter u test [] = refl
among-filter u test (x ∷ xs) = by_tests (same_unit u x) (test x) refl refl (among-filter u test xs)
  where
    by_tests : (s b : Bool) → same_unit u x ≡ s → test x ≡ b → among u (filter test xs) ≡ (among u xs && test u) →
        among u (cond b (x ∷ filter test xs) (filter test xs)) ≡ ((s || among u xs) && test u)
    by_tests true true s b ih = rw (s, ap test (same_is u x s), b) refl
    by_tests true false s b ih = ih ∙ rw (ap test (same_is u x s), b) (and_right (among u xs) false refl)
    by_tests false true s b ih = rw s ih
    by_tests false false s b ih = ih

pub among-append : (u : BidUnit) (xs ys : List BidUnit) → among u (xs ++ ys) ≡ (among u xs || among u ys)
among-append u xs ys = list_any-append (same_unit u) xs ys

-- a unit is not among units that all differ from it in some way
pub not_among : (P : BidUnit → Type 0) (u : BidUnit) (xs : List BidUnit) → ((v : BidUnit) → P v → u ≡ v → ⊥) → Each P xs → among u xs ≡ false
not_among P u [] differs h = refl
not_among P u (x ∷ xs) differs h = by_test (same_unit u x) refl (not_among P u xs differs h.1)
  where
    by_test : (b : Bool) → same_unit u x ≡ b → among u xs ≡ false → (b || among u xs) ≡ false
    by_test true s rest = absurd (differs x h.0 (same_is u x s))
    by_test false s rest = rest

-- each of the units is among the others
abbrev pub AllAmong : List BidUnit → List BidUnit → Type 0
AllAmong others units = Each (λ (u : BidUnit). among u others ≡ true) units

pub all_among_right : (us xs ys : List BidUnit) → AllAmong ys us → AllAmong (xs ++ ys) us
all_among_right us xs ys h = each-weaker (λ (u : BidUnit). among u ys ≡ true) (λ (u : BidUnit). among u (xs ++ ys) ≡ true) us (λ u k. among-append u xs ys ∙ or_right (among u xs) (among u ys) k) h

pub all_among_left : (us xs ys : List BidUnit) → AllAmong xs us → AllAmong (xs ++ ys) us
all_among_left us xs ys h = each-weaker (λ (u : BidUnit). among u xs ≡ true) (λ (u : BidUnit). among u (xs ++ ys) ≡ true) us (λ u k. among-append u xs ys ∙ or_left (among u xs) (among u ys) k) h

pub all_among_self : (us : List BidUnit) → AllAmong us us
all_among_self [] = tt
all_among_self (u ∷ us) = (or_left (same_unit u u) (among u us) (same_self u), all_among_right us (u ∷ []) us (all_among_self us))

-- the units of one bid are among those of all
pub all_among_bids : (bids : List (Option Placed)) (i : ℕ) (d : Option Placed) → i < length bids → AllAmong (units_of_bids bids) (units_of_last (get_or bids i d))
all_among_bids [] i d h = absurd (omega arith)
all_among_bids (bid ∷ bids) zero d h = all_among_left (units_of_last bid) (units_of_last bid) (units_of_bids bids) (all_among_self (units_of_last bid))
all_among_bids (bid ∷ bids) (suc i) d h = all_among_right (units_of_last (get_or bids i d)) (units_of_last bid) (units_of_bids bids) (all_among_bids bids i d (omega arith))

pub all_among_last : (agent : ℕ) (past : List Entry) → agent ≤ 7 → AllAmong (bid_units past) (units_of_last (last_bid agent past))
all_among_last agent past le =
    subst (λ (bid : Option Placed). AllAmong (bid_units past) (units_of_last bid)) (agents_get agent (λ (a : ℕ). last_bid a past) None le)
    (all_among_bids (last_bids past) agent None (omega arith))

-- ---- what calls trade away was bid before

-- P holds of the unit, if there is one
If : (BidUnit → Type 0) → Option BidUnit → Type 0
If P None = Unit {0}
If P (Some u) = P u

find_each : (P : BidUnit → Type 0) (test : BidUnit → Bool) (us : List BidUnit) → Each P us → If P (find test us)
unfolding If
find_each P test [] h = tt
find_each P test (u ∷ us) h = keep (test u) (find_each P test us h.1)
  where
    keep : (b : Bool) → If P (find test us) → If P (cond b (Some u) (find test us))
    keep true k = h.0
    keep false k = k

crossing_each : (P : BidUnit → Type 0) (u : BidUnit) (best : Option BidUnit) → If P best → If P (if_crossing u best)
unfolding If
crossing_each P u None h = tt
crossing_each P u (Some v) h = by_test _
  where
    by_test : (b : Bool) → If P (cond b (Some v) None)
    by_test true = h
    by_test false = tt

partner_each : (P : BidUnit → Type 0) (standing : List BidUnit) (u : BidUnit) → Each P standing → If P (partner standing u)
partner_each P standing u h = crossing_each P u (best (filter (faces u) standing)) (find_each P _ (filter (faces u) standing) (each-filter P (faces u) standing h))

not_taken_each : (P : BidUnit → Type 0) (taken : Option BidUnit) (standing : List BidUnit) → Each P standing → Each P (not_taken taken standing)
not_taken_each P None standing h = h
not_taken_each P (Some v) standing h = each-filter P (λ (u : BidUnit). not (same_unit u v)) standing h

-- the units of a pair and of more pairs
pair_each : (P : BidUnit → Type 0) (u : BidUnit) (taken : Option BidUnit) (more : List (BidUnit × BidUnit)) → P u → If P taken →
    Each P (units_of_pairs more) → Each P (units_of_pairs (pair_with u taken ++ more))
unfolding If
pair_each P u None more one two rest = rest
pair_each P u (Some v) more one two rest = (one, (two, rest))

ticket_each : (P : BidUnit → Type 0) (standing us : List BidUnit) → Each P standing → Each P us → Each P (ticket_gone standing us)
ticket_each P standing [] h k = tt
ticket_each P standing (u ∷ us) h k =
    pair_each P u (partner standing u) (pairs (not_taken (partner standing u) standing) us) k.0 (partner_each P standing u h)
    (ticket_each P (not_taken (partner standing u) standing) us (not_taken_each P (partner standing u) standing h) k.1)

looked_below : (standing : List BidUnit) (n caller : ℕ) (call : Call) → Below n standing → Below (suc n) (looked_at standing n caller call)
looked_below standing n caller (Bid points) h =
    each-append (λ (u : BidUnit). u.position < suc n) (filter (λ (u : BidUnit). not (u.agent == caller)) standing) (units_from caller n 0 points)
    (each-filter (λ (u : BidUnit). u.position < suc n) (λ (u : BidUnit). not (u.agent == caller)) standing (below-more n standing h))
    (here_below caller n 0 points)
looked_below standing n caller Withdraw h = below-more n standing h
looked_below standing n caller OwnCall h = below-more n standing h
looked_below standing n caller (Update tick draw) h = below-more n standing h
looked_below standing n caller Publish h = below-more n standing h
looked_below standing n caller Close h = below-more n standing h

arriving_below : (n caller : ℕ) (call : Call) → Below (suc n) (arriving n caller call)
arriving_below n caller (Bid points) = here_below caller n 0 points
arriving_below n caller Withdraw = tt
arriving_below n caller OwnCall = tt
arriving_below n caller (Update tick draw) = tt
arriving_below n caller Publish = tt
arriving_below n caller Close = tt

if_below : (n : ℕ) (b : Bool) (us : List BidUnit) → Below n us → Below n (cond b us [])
if_below n true us h = h
if_below n false us h = tt

gone_by_below : (rules : Rules) (past : List Entry) (standing : List BidUnit) (caller : ℕ) (call : Call) → Below (length past) standing →
    Below (suc (length past)) (gone_by rules past standing caller call)
gone_by_below (FlightRules first bound) past standing caller call h =
    if_below (suc (length past)) _ _ (each-filter (λ (u : BidUnit). u.position < suc (length past)) _ (looked_at standing (length past) caller call) (looked_below standing (length past) caller call h))
gone_by_below (HotelRules rooms live) past standing caller call h = tt
gone_by_below TicketRules past standing caller call h =
    ticket_each (λ (u : BidUnit). u.position < suc (length past)) standing (arriving (length past) caller call) (below-more (length past) standing h) (arriving_below (length past) caller call)

last_below : (agent : ℕ) (past : List Entry) → Below (length past) (units_of_last (last_bid agent past))
last_below agent past = last_units (λ (u : BidUnit). u.position < length past) agent (length past) (last_bid agent past) (last_is agent past) (λ u own lt. lt)

bids_below : (past : List Entry) (who : List ℕ) → Below (length past) (flat_map units_of_last (map (λ a. last_bid a past) who))
bids_below past [] = tt
bids_below past (a ∷ who) =
    each-append (λ (u : BidUnit). u.position < length past) (units_of_last (last_bid a past)) (flat_map units_of_last (map (λ (b : ℕ). last_bid b past) who)) (last_below a past) (bids_below past who)

standing_below : (past : List Entry) (gone : List BidUnit) → Below (length past) (left_standing past gone)
standing_below past gone = by_test (is_closed past)
  where
    by_test : (b : Bool) → Below (length past) (cond b [] (without (bid_units past) gone))
    by_test true = tt
    by_test false = each-filter (λ (u : BidUnit). u.position < length past) (λ (u : BidUnit). not (among u gone)) (bid_units past) (bids_below past agents)

-- what was traded away was bid before
pub gone_below : (rules : Rules) (past : List Entry) → Below (length past) (gone rules past)
gone_below rules [] = tt
gone_below rules (e ∷ past) =
    each-append (λ (u : BidUnit). u.position < suc (length past)) _ (gone rules past)
    (if_below (suc (length past)) (is_admission e.reply) _ (gone_by_below rules past (stand rules past) e.caller e.call (standing_below past (gone rules past))))
    (below-more (length past) (gone rules past) (gone_below rules past))

-- no unit of a new bid was traded away
pub new_not_gone : (rules : Rules) (past : List Entry) (agent : ℕ) (points : List Point) →
    Each (λ (u : BidUnit). among u (gone rules past) ≡ false) (units_of (record { agent = agent; position = length past; points = points }))
new_not_gone rules past agent points =
    each-weaker (IsPlaced agent (length past)) (λ (u : BidUnit). among u (gone rules past) ≡ false) _
    (λ u placed. not_among (λ (v : BidUnit). v.position < length past) u (gone rules past)
    (λ v lt same. let here : v.position ≡ length past = sym (ap (λ (w : BidUnit). w.position) same) ∙ placed.1 in omega arith) (gone_below rules past))
    (each-placed agent (length past) 0 points)

-- ---- what stands of a last bid while the auction is open

-- a unit of a last bid stands if it was not traded away
pub stands_unless_gone : (rules : Rules) (past : List Entry) (agent : ℕ) → agent ≤ 7 → is_closed past ≡ false →
    Each (λ (u : BidUnit). among u (stand rules past) ≡ not (among u (gone rules past))) (units_of_last (last_bid agent past))
stands_unless_gone rules past agent le h =
    each-weaker (λ (u : BidUnit). among u (bid_units past) ≡ true) (λ (u : BidUnit). among u (stand rules past) ≡ not (among u (gone rules past))) (units_of_last (last_bid agent past))
    (λ u k. ap (λ (b : Bool). among u (cond b [] (without (bid_units past) (gone rules past)))) h
    ∙ among-filter u (λ (v : BidUnit). not (among v (gone rules past))) (bid_units past) ∙ rw k refl)
    (all_among_last agent past le)

-- ---- units put together as points

pub count_none : (us : List BidUnit) → common_units us [] ≡ 0
count_none [] = refl
count_none (u ∷ us) = count_none us

pub count_all : (standing us : List BidUnit) → AllAmong standing us → common_units us standing ≡ length us
count_all standing [] h = refl
count_all standing (u ∷ us) h = sum_by-cons (λ (v : BidUnit). cond (among v standing) 1 0) u us ∙ rw (h.0, count_all standing us h.1) (omega arith)

pub signed_whole : (z : ℤ) → signed_as z (unsigned_abs z) ≡ z
signed_whole (pos n) = refl
signed_whole (negsuc n) = refl

not_zero : (n : ℕ) → n ≢ 0 → (n == 0) ≡ false
not_zero n h = grind (arith, nat_tests)

-- a bid of which every unit stands is whole
pub left_whole : (standing : List BidUnit) (agent position from : ℕ) (points : List Point) →
    AllAmong standing (units_from agent position from points) → AllByRecursion (λ (p : Point). size_of p ≢ 0) points → left_points standing agent position from points ≡ points
left_whole standing agent position from [] all full = refl
left_whole standing agent position from (point ∷ points) all full =
    let P : BidUnit → Type 0 = λ u. among u standing ≡ true in
    let front = each-front P (point_units agent position from point) (units_from agent position (from + size_of point) points) all in
    let back = each-back P (point_units agent position from point) (units_from agent position (from + size_of point) points) all in
    let count : common_units (point_units agent position from point) standing ≡ size_of point =
    count_all standing (point_units agent position from point) front ∙ length-point_units agent position from point in
    rw (count, not_zero (size_of point) full.0, left_whole standing agent position (from + size_of point) points back full.1, signed_whole point.units)

-- nothing is left if nothing stands
pub left_none : (agent position from : ℕ) (points : List Point) → left_points [] agent position from points ≡ []
left_none agent position from [] = refl
left_none agent position from (point ∷ points) = rw (count_none (point_units agent position from point)) (left_none agent position (from + size_of point) points)
