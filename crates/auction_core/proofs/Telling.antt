-- The numbers in replies are in range, if every bid of the past is within its limits.
use Rattle.std.proofs.Common.{◌≡◌, ℕ, ◌+◌, ◌≤◌, Bool, true, false, cond, List, [], ◌∷◌, length, map, arith, ℤ, unsigned_abs, Option, Some, None, IfSome, not, ◌&&◌, ◌||◌, nat_le, max, filter, count_by}
use Rattle.std.proofs.lemmas.Int.{ints}
use Rattle.std.specs.Prelude.{⊤}
use Rattle.std.specs.List.{AllByRecursion}
use Rattle.auction_core.specs.{Point, size_of, buys_of, point_fault, first_fault, fault_of, BID_PRICE, Call, Reply, agents, IsCall, IsReply, HasCallNumbers, HasSmallNumbers, Placed, BidUnit, Setup, Rules, point_units, units_from, among, without, gone, stand, ask, publishes, published, holding, is_wrong_caller, is_wrong_place, bid_refusal, call_refusal, refusal, sells, admitted_reply, close_reply, entry_by, reply_of, IsHolding, IsFit, IsToldInRange}
use Rattle.tac_base.specs.declared.calls.Call.TheVariants.{Bid, Withdraw, Own as OwnCall, Update, Publish, Close}
use Rattle.tac_base.specs.declared.calls.Reply.TheVariants as replies
use Rattle.tac_base.proofs.Faults.{good_point, both_none}
use Rattle.auction_rules.specs.declared.rules.Rules.TheVariants.{Flight as FlightRules, Hotel as HotelRules, Tickets as TicketRules}
use Rattle.auction_rules.specs.History.{Entry, is_admission, is_bid, is_own, is_closed}
use Rattle.auction_rules.specs.BookStanding.{bid_after, last_bid, bid_units, units_of_last}
use Rattle.auction_rules.proofs.Lists.{all-flat_map, all-map, all_alike}
use Rattle.auction_rules.proofs.Quotes.{fold_keeps, max_keeps, prices_of}
use Rattle.auction_rules.proofs.Standing.{Each, each-append, each-block, each-filter, each-weaker}

-- ---- what the rules and the types of calls and replies keep, together

pub call_ranged : (call : Call) → HasCallNumbers call → IsFit call → IsCall call
call_ranged (Bid points) small fit = small
call_ranged Withdraw small fit = tt
call_ranged OwnCall small fit = tt
call_ranged (Update tick draw) small fit = (small.0, fit, small.1)
call_ranged Publish small fit = tt
call_ranged Close small fit = tt

pub reply_ranged : (reply : Reply) → HasSmallNumbers reply → IsToldInRange reply → IsReply reply
reply_ranged (replies.Taken bought sold) small told = small
reply_ranged (replies.Own holding left) small told = (shown holding told, small)
  where
    shown : (held : ℤ) → IsHolding held → unsigned_abs held ≤ 1000000
    shown held is = omega (arith, ints, is.0, is.1)
reply_ranged (replies.Sold units price) small told = (small, omega (arith, told))
reply_ranged replies.Done small told = tt
reply_ranged replies.Closed small told = tt
reply_ranged replies.WrongCall small told = tt
reply_ranged replies.NoBid small told = tt
reply_ranged replies.Sell small told = tt
reply_ranged replies.SelfCross small told = tt
reply_ranged (replies.BelowQuote need at offered) small told = (small.0, told, small.1)

-- ---- no unit of a bid costs more than 10000 dollars

abbrev Cheap : BidUnit → Type 0
Cheap u = u.price ≤ BID_PRICE

cheap_points : (agent position from count used : ℕ) (points : List Point) → first_fault count used points ≡ None → Each Cheap (units_from agent position from points)
cheap_points agent position from count used [] h = tt
cheap_points agent position from count used (point ∷ points) h =
    let parts = both_none (point_fault count used point) (first_fault (count + 1) (used + size_of point) points) h in
    let cheap = (good_point count used point parts.0).cheap in
    each-append Cheap (point_units agent position from point) (units_from agent position (from + size_of point) points)
    (each-block Cheap (record { agent = agent; buys = buys_of point.units; price = point.price; position = position; index = from }) (size_of point) (λ i. cheap))
    (cheap_points agent position (from + size_of point) (count + 1) (used + size_of point) points parts.1)

cheap_bid : (agent position : ℕ) (points : List Point) → fault_of points ≡ None → Each Cheap (units_from agent position 0 points)
cheap_bid agent position [] h = tt
cheap_bid agent position (point ∷ points) h = cheap_points agent position 0 0 0 (point ∷ points) h

-- every bid of the past is within its limits
abbrev pub AreBids : List Entry → Type 0
AreBids past = AllByRecursion (λ e. IsCall e.call) past

abbrev IsGoodBid : Option Placed → Type 0
IsGoodBid None = ⊤
IsGoodBid (Some bid) = fault_of bid.points ≡ None

good_after : (caller position : ℕ) (call : Call) (earlier : Option Placed) → IsCall call → IsGoodBid earlier → IsGoodBid (bid_after caller position call earlier)
good_after caller position (Bid points) earlier good h = good
good_after caller position Withdraw earlier good h = tt
good_after caller position OwnCall earlier good h = h
good_after caller position (Update tick draw) earlier good h = h
good_after caller position Publish earlier good h = h
good_after caller position Close earlier good h = h

last_good : (agent : ℕ) (past : List Entry) → AreBids past → IsGoodBid (last_bid agent past)
last_good agent [] h = tt
last_good agent (e ∷ past) h = by_test _ (last_good agent past h.1)
  where
    by_test : (b : Bool) → IsGoodBid (last_bid agent past) → IsGoodBid (cond b (bid_after e.caller (length past) e.call (last_bid agent past)) (last_bid agent past))
    by_test true k = good_after e.caller (length past) e.call (last_bid agent past) h.0 k
    by_test false k = k

cheap_last : (bid : Option Placed) → IsGoodBid bid → Each Cheap (units_of_last bid)
cheap_last None h = tt
cheap_last (Some bid) h = cheap_bid bid.agent bid.position bid.points h

cheap_bids : (past : List Entry) → AreBids past → Each Cheap (bid_units past)
cheap_bids past h =
    all-flat_map Cheap units_of_last (map (λ agent. last_bid agent past) agents)
    (all-map (λ bid. Each Cheap (units_of_last bid)) (λ agent. last_bid agent past) agents (all_alike (λ agent. Each Cheap (units_of_last (last_bid agent past))) agents (λ agent. cheap_last (last_bid agent past) (last_good agent past h))))

cheap_stand : (rules : Rules) (past : List Entry) → AreBids past → Each Cheap (stand rules past)
cheap_stand rules past h = by_test (is_closed past)
  where
    by_test : (b : Bool) → Each Cheap (cond b [] (without (bid_units past) (gone rules past)))
    by_test true = tt
    by_test false = each-filter Cheap (λ u. not (among u (gone rules past))) (bid_units past) (cheap_bids past h)

-- ---- no ask and no published price is higher

ask_within : (rooms : ℕ) (units : List BidUnit) → Each Cheap units → ask rooms units ≤ BID_PRICE
ask_within rooms units h =
    fold_keeps (λ n. n ≤ BID_PRICE) max (max_keeps (λ n. n ≤ BID_PRICE)) 0 (omega arith) (map (λ u. u.price) (filter enough units))
    (prices_of (λ n. n ≤ BID_PRICE) enough units (each-weaker Cheap (λ u. enough u ≡ true → u.price ≤ BID_PRICE) units (λ u le is. le) h))
  where
    enough : BidUnit → Bool
    enough u = nat_le rooms (count_by (λ v. nat_le u.price v.price) units)

published_within : (rooms : ℕ) (live : Bool) (past : List Entry) → AreBids past → published rooms live past ≤ BID_PRICE
published_within rooms live [] h = omega arith
published_within rooms live (e ∷ past) h =
    either (is_admission e.reply && publishes e.call) (ask rooms (stand (HotelRules rooms live) past)) _ (ask_within rooms (stand (HotelRules rooms live) past) (cheap_stand (HotelRules rooms live) past h.1))
    (either (is_admission e.reply && (is_bid e.call && live)) (ask rooms (stand (HotelRules rooms live) (e ∷ past))) (published rooms live past)
    (ask_within rooms (stand (HotelRules rooms live) (e ∷ past)) (cheap_stand (HotelRules rooms live) (e ∷ past) h)) (published_within rooms live past h.1))
  where
    either : (b : Bool) (m n : ℕ) → m ≤ BID_PRICE → n ≤ BID_PRICE → cond b m n ≤ BID_PRICE
    either true m n h k = h
    either false m n h k = k

-- ---- refusals

abbrev IsRefusedInRange : Option Reply → Type 0
IsRefusedInRange refused = IfSome refused IsToldInRange

if_told : (b : Bool) (r s : Option Reply) → IsRefusedInRange r → IsRefusedInRange s → IsRefusedInRange (cond b r s)
if_told true r s h k = h
if_told false r s h k = k

module _ (past : List Entry) (bids : AreBids past) (caller : ℕ) where
  bid_told : (rules : Rules) (points : List Point) → IsRefusedInRange (bid_refusal rules past caller points)
  bid_told (FlightRules first bound) points = if_told (sells points) _ None tt tt
  bid_told (HotelRules rooms live) points = if_told (sells points) _ _ tt (if_told _ (Some _) None (let le = published_within rooms live past bids in omega (arith, le)) tt)
  bid_told TicketRules points = if_told _ (Some _) None tt tt

  call_told : (rules : Rules) (call : Call) → IsRefusedInRange (call_refusal rules past caller call)
  call_told rules (Bid points) = bid_told rules points
  call_told rules Withdraw = if_told _ None (Some _) tt tt
  call_told rules OwnCall = tt
  call_told rules (Update tick draw) = tt
  call_told rules Publish = tt
  call_told rules Close = tt

  refusal_told : (rules : Rules) (call : Call) → IsRefusedInRange (refusal rules past caller call)
  refusal_told rules call = if_told (not (is_own call) && is_closed past) (Some _) _ tt (if_told (is_wrong_caller caller call || is_wrong_place rules call) (Some _) _ tt (call_told rules call))

  -- ---- admitted replies

  closed_told : (rules : Rules) → IsToldInRange (close_reply rules past)
  closed_told (FlightRules first bound) = tt
  closed_told (HotelRules rooms live) = ask_within rooms (stand (HotelRules rooms live) past) (cheap_stand (HotelRules rooms live) past bids)
  closed_told TicketRules = tt

  admitted_told : (setup : Setup) (call : Call) → IsHolding (holding setup past caller) → IsToldInRange (admitted_reply setup past caller call)
  admitted_told setup OwnCall held = held
  admitted_told setup (Bid points) held = tt
  admitted_told setup Withdraw held = tt
  admitted_told setup (Update tick draw) held = tt
  admitted_told setup Publish held = tt
  admitted_told setup Close held = closed_told setup.rules

  pub told_in_range : (setup : Setup) (call : Call) → IsHolding (holding setup past caller) → IsToldInRange (reply_of setup past caller call)
  told_in_range setup call held = by_refusal (refusal setup.rules past caller call) (refusal_told setup.rules call)
    where
      by_refusal : (r : Option Reply) → IsRefusedInRange r → IsToldInRange (entry_by setup past caller call r).reply
      by_refusal None h = admitted_told setup call held
      by_refusal (Some reply) h = h
