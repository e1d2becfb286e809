-- The six refusals of a call, and the order in which they are tested, which is our own rule. What a hotel bid must offer to beat
-- the quote is after TAC, from memory.
use Rattle.std.specs.Prelude.{ℕ, ◌+◌, ◌==◌, max, Bool, true, false, not, ◌&&◌, ◌||◌, nat_le, nat_lt, if◌then◌else◌, List, Option, Some, None, sum_by}
use Rattle.std.specs.List.{list_any}
use Rattle.tac_base.specs.declared.bids.Point.{Point}
use Rattle.tac_base.specs.declared.calls.Call.{Call}
use Rattle.tac_base.specs.declared.calls.Reply.{Reply}
use Rattle.tac_base.specs.declared.calls.Reply.TheVariants.{Closed, WrongCall, NoBid, Sell, SelfCross, BelowQuote}
use Rattle.tac_base.specs.Bids.{buys_of, size_of}
use Rattle.tac_base.specs.Goods.{clock}
use Rattle.tac_base.specs.declared.calls.Call.TheVariants.{Bid, Withdraw, Own as OwnCall, Update, Publish}
use Rattle.auction_rules.specs.declared.units.BidUnit.{BidUnit}
use Rattle.auction_rules.specs.declared.rules.Rules.{Rules}
use Rattle.auction_rules.specs.declared.rules.Rules.TheVariants.{Flight as FlightRules, Hotel as HotelRules, Tickets as TicketRules}
use Rattle.auction_rules.specs.History.{Entry, is_own, is_closed}
use Rattle.auction_rules.specs.Ask.{published_price}
use Rattle.auction_rules.specs.HotelClosing.{rooms_won}

-- Wrong call, first case: the caller is an agent and the call is one of the clock's, or the other way round.
-- Row: each_has_its_own_calls (worked_rows/proofs/Auctions.antt)
abbrev pub is_wrong_caller : ℕ → Call → Bool
is_wrong_caller caller (Bid points) = caller == clock
is_wrong_caller caller Withdraw = caller == clock
is_wrong_caller caller OwnCall = caller == clock
is_wrong_caller caller call = not (caller == clock)

-- Wrong call, second case: auctions of this kind do not accept the call, `Withdraw` or `Update` for a hotel night, `Publish` for a
-- flight, `Update` or `Publish` for tickets.
-- Row: each_has_its_own_calls (worked_rows/proofs/Auctions.antt)
abbrev pub is_wrong_place : Rules → Call → Bool
is_wrong_place (HotelRules rooms live) Withdraw = true
is_wrong_place (HotelRules rooms live) (Update tick draw) = true
is_wrong_place (FlightRules first bound) Publish = true
is_wrong_place TicketRules (Update tick draw) = true
is_wrong_place TicketRules Publish = true
is_wrong_place rules call = false

-- Sell: a bid for a flight or a hotel night has a point that sells.
abbrev pub sells : List Point → Bool
sells points = list_any (λ point. not (buys_of point.units)) points

-- Self cross: a bid for tickets has a buying point whose price is at least that of one of the bid's selling points.
-- Row: equal_prices_cross_themselves (worked_rows/proofs/Auctions.antt)
abbrev pub crosses_itself : List Point → Bool
crosses_itself points = list_any (λ buy. buys_of buy.units && list_any (λ sell. not (buys_of sell.units) && nat_le sell.price buy.price) points) points

-- how many units the points offer at the price `at` or above
abbrev pub offered : List Point → ℕ → ℕ
offered points at = sum_by (λ point. if nat_le at point.price then size_of point else 0) points

-- Below quote: a bid for a hotel night offers fewer than `due` units at the price `at` or above. Whether it sells is tested first.
-- Row: fewer_units_do_not_replace_those_that_win (worked_rows/proofs/Auctions.antt)
-- Row: live_bid_must_beat_the_last_one (worked_rows/proofs/Auctions.antt)
abbrev pub hotel_refusal : ℕ → ℕ → List Point → Option Reply
hotel_refusal due at points =
    if sells points then Some Sell
    else if nat_lt (offered points at) due then Some (BelowQuote due at (offered points at)) else None

-- The refusals of a bid or a withdrawal. A hotel bid has to beat the quote: with as many units as the agent would buy if the hotel
-- closed now, and at least one, each at a price of at least the published price plus 1, even if bids have arrived since the
-- publication. No bid: the call is `Withdraw`, and the agent has no standing units. `standing` are the units that stand before the
-- call.
abbrev pub other_refusal : Rules → List Entry → List BidUnit → ℕ → Call → Option Reply
other_refusal (FlightRules first bound) past standing caller (Bid points) = if sells points then Some Sell else None
other_refusal (HotelRules rooms live) past standing caller (Bid points) = hotel_refusal (max 1 (rooms_won rooms standing caller)) (published_price rooms live past + 1) points
other_refusal TicketRules past standing caller (Bid points) = if crosses_itself points then Some SelfCross else None
other_refusal rules past standing caller Withdraw = if list_any (λ u. u.agent == caller) standing then None else Some NoBid
other_refusal rules past standing caller call = None

-- Each call is tested for the refusals in this order, and the first that applies is the reply: closed, where the auction is already
-- closed and the call is not `Own`; wrong call; and then those of the call itself.
abbrev pub first_refusal : Rules → List Entry → List BidUnit → ℕ → Call → Option Reply
first_refusal rules past standing caller call =
    if not (is_own call) && is_closed past then Some Closed
    else if is_wrong_caller caller call || is_wrong_place rules call then Some WrongCall
    else other_refusal rules past standing caller call
