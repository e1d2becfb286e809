-- The auctions on small games: each lemma compares what the definitions compute with a run that was worked out by hand.
use Rattle.std.proofs.Common.{◌≡◌, ℕ, Bool, true, false, List, [], ◌∷◌, ℤ, pos, refl, ap, map, ◌++◌, reverse, replicate, length, neg_ℤ, flat_map}
use Rattle.tac_base.specs.declared.bids.Point.{Point}
use Rattle.tac_base.specs.declared.calls.Trade.{Trade}
use Rattle.tac_base.specs.declared.calls.Board.{Board}
use Rattle.tac_base.specs.declared.calls.Call.{Call}
use Rattle.tac_base.specs.declared.calls.Call.TheVariants.{Bid, Withdraw, Own as OwnCall, Update, Publish, Close}
use Rattle.tac_base.specs.declared.calls.Reply.{Reply}
use Rattle.tac_base.specs.declared.calls.Reply.TheVariants.{Taken, Own, Sold, Done, Closed, WrongCall, NoBid, Sell, SelfCross, BelowQuote}
use Rattle.tac_base.specs.declared.numbers.Kind.TheVariants as kinds
use Rattle.tac_base.specs.Goods.{inbound_flight, outbound_flight, hotel_night, ticket_night}
use Rattle.tac_base.specs.Kinds.{kind_of}
use Rattle.auction_rules.specs.declared.units.BidUnit.{BidUnit}
use Rattle.auction_rules.specs.Units.{units_of}
use Rattle.auction_rules.specs.Setup.{Setup}
use Rattle.auction_rules.specs.declared.rules.Rules.TheVariants.{Hotel as HotelRules, Flight as FlightRules, Tickets as TicketRules}
use Rattle.auction_rules.specs.History.{Entry}
use Rattle.auction_rules.specs.Effects.{dollars, nets}
use Rattle.auction_rules.specs.FlightRule.{next_price}
use Rattle.auction_rules.specs.Standing.{standing_units}
use Rattle.auction_rules.specs.Ask.{ask}
use Rattle.auction_rules.specs.HotelClosing.{rooms_won}
use Rattle.auction_rules.specs.Legal.{entry_due, AreDueEntries, entries_of, cap}
use Rattle.auction_rules.specs.Board.{board}
use Rattle.auction_rules.specs.Part.{callers_part}

abbrev point : ℤ → ℕ → Point
point units price = record { units = units; price = price }

-- one point that buys, and one that sells
abbrev buy : ℕ → ℕ → Call
buy units price = Bid (point (pos units) price ∷ [])

abbrev sell : ℕ → ℕ → Call
sell units price = Bid (point (neg_ℤ (pos units)) price ∷ [])

-- a trade of a good with the house as the seller
abbrev from_house : ℕ → ℕ → ℕ → ℕ → Trade
from_house agent good units price = record { buyer = agent; seller = 8; good = good; units = units; price = price }

abbrev one_ticket : ℕ → ℕ → ℕ → Trade
one_ticket buyer seller price = record { buyer = buyer; seller = seller; good = 24; units = 1; price = price }

-- nobody holds anything at first
abbrev nothing_held : List ℤ
nothing_held = replicate 9 (pos 0)

-- a hotel of 16 rooms without live quotes, a flight of bound 10, and a ticket auction
abbrev hotel : Setup
hotel = record { good = 8; rules = HotelRules 16 false; endow = nothing_held }

abbrev flight : ℕ → Setup
flight first = record { good = 0; rules = FlightRules first (pos 10); endow = nothing_held }

abbrev tickets : Setup
tickets = record { good = 24; rules = TicketRules; endow = nothing_held }

-- the past that calls make, the newest call first
abbrev past_by : Setup → List (ℕ × Call) → List Entry
past_by setup [] = []
past_by setup ((caller, call) ∷ calls) = entry_due setup (past_by setup calls) caller call ∷ past_by setup calls

-- the past that calls make, which are given in order
abbrev pub played : Setup → List (ℕ × Call) → List Entry
played setup calls = past_by setup (reverse calls)

-- the replies, and the trades, in order
abbrev run : Setup → List (ℕ × Call) → List Reply × List Trade
run setup calls = (map (λ e. e.reply) (reverse (played setup calls)), flat_map (λ e. e.trades) (reverse (played setup calls)))

abbrev shown : Setup → List (ℕ × Call) → Board
shown setup calls = board setup.rules (played setup calls)

-- ---- goods and units

last_and_first_goods_of_each_kind : map kind_of (0 ∷ 7 ∷ 8 ∷ 15 ∷ 16 ∷ 27 ∷ []) ≡ kinds.Flight ∷ kinds.Flight ∷ kinds.Hotel ∷ kinds.Hotel ∷ kinds.Ticket ∷ kinds.Ticket ∷ []
last_and_first_goods_of_each_kind = refl

inbound_flights_are_0_to_3 : map inbound_flight (1 ∷ 2 ∷ 3 ∷ 4 ∷ []) ≡ 0 ∷ 1 ∷ 2 ∷ 3 ∷ []
inbound_flights_are_0_to_3 = refl

goods_are_numbered_by_days_and_nights : (map outbound_flight (2 ∷ 3 ∷ 4 ∷ 5 ∷ []) ≡ 4 ∷ 5 ∷ 6 ∷ 7 ∷ [])
    × (flat_map (λ x. map (hotel_night x) (1 ∷ 2 ∷ 3 ∷ 4 ∷ [])) (0 ∷ 1 ∷ []) ≡ 8 ∷ 9 ∷ 10 ∷ 11 ∷ 12 ∷ 13 ∷ 14 ∷ 15 ∷ [])
    × (flat_map (λ i. map (ticket_night i) (1 ∷ 2 ∷ 3 ∷ 4 ∷ [])) (0 ∷ 1 ∷ 2 ∷ []) ≡ 16 ∷ 17 ∷ 18 ∷ 19 ∷ 20 ∷ 21 ∷ 22 ∷ 23 ∷ 24 ∷ 25 ∷ 26 ∷ 27 ∷ [])
goods_are_numbered_by_days_and_nights = (refl, refl, refl)

-- a unit of a bid of agent 2 at position 5
abbrev unit : ℕ → Bool → ℕ → BidUnit
unit index buys price = record { agent = 2; buys = buys; price = price; position = 5; index = index }

units_go_on_through_the_points : units_of (record { agent = 2; position = 5; points = point (pos 2) 70 ∷ point (neg_ℤ (pos 1)) 90 ∷ [] }) ≡ unit 0 true 70 ∷ unit 1 true 70 ∷ unit 2 false 90 ∷ []
units_go_on_through_the_points = refl

-- ---- refusals

calls_and_bids_that_are_refused : (run hotel ((8, Close) ∷ (0, buy 1 5) ∷ (8, Close) ∷ []) ≡ (Sold 0 0 ∷ Closed ∷ Closed ∷ [], []))
    × (run hotel ((0, Withdraw) ∷ []) ≡ (WrongCall ∷ [], []))
    × (run (flight 300) ((0, sell 1 300) ∷ []) ≡ (Sell ∷ [], []))
    × (run tickets ((0, Bid (point (pos 1) 80 ∷ point (neg_ℤ (pos 1)) 70 ∷ [])) ∷ (0, Withdraw) ∷ []) ≡ (SelfCross ∷ NoBid ∷ [], []))
calls_and_bids_that_are_refused = (refl, refl, refl, refl)

each_has_its_own_calls : (run hotel ((8, buy 1 5) ∷ (8, OwnCall) ∷ (0, Publish) ∷ (0, Close) ∷ (8, Update 1 0) ∷ []) ≡ (WrongCall ∷ WrongCall ∷ WrongCall ∷ WrongCall ∷ WrongCall ∷ [], []))
    × (run (flight 300) ((8, Publish) ∷ []) ≡ (WrongCall ∷ [], []))
    × (run tickets ((8, Publish) ∷ (8, Update 1 0) ∷ []) ≡ (WrongCall ∷ WrongCall ∷ [], []))
each_has_its_own_calls = (refl, refl, refl)

closed_comes_first : run hotel ((8, Close) ∷ (0, Publish) ∷ (0, Withdraw) ∷ (0, OwnCall) ∷ []) ≡ (Sold 0 0 ∷ Closed ∷ Closed ∷ Own (pos 0) [] ∷ [], [])
closed_comes_first = refl

equal_prices_cross_themselves : run tickets ((0, Bid (point (pos 1) 70 ∷ point (neg_ℤ (pos 1)) 70 ∷ [])) ∷ (0, Bid (point (pos 1) 69 ∷ point (neg_ℤ (pos 1)) 70 ∷ [])) ∷ []) ≡ (SelfCross ∷ Taken 0 0 ∷ [], [])
equal_prices_cross_themselves = refl

-- agent 1 bids to buy at 70 and to sell at 65
refused_bid_takes_nothing : (run tickets ((0, sell 1 60) ∷ (1, Bid (point (pos 1) 70 ∷ point (neg_ℤ (pos 1)) 65 ∷ [])) ∷ []) ≡ (Taken 0 0 ∷ SelfCross ∷ [], []))
    × (map (λ u. u.agent) (standing_units TicketRules (played tickets ((0, sell 1 60) ∷ (1, Bid (point (pos 1) 70 ∷ point (neg_ℤ (pos 1)) 65 ∷ [])) ∷ []))) ≡ 0 ∷ [])
refused_bid_takes_nothing = (refl, refl)

refused_calls_count : map (entries_of (reverse (played (flight 300) ((0, Withdraw) ∷ (0, buy 1 200) ∷ (8, Publish) ∷ [])))) (0 ∷ 1 ∷ 8 ∷ []) ≡ 2 ∷ 0 ∷ 1 ∷ []
refused_calls_count = refl

withdrawn_bid_is_gone : run (flight 300) ((0, buy 2 200) ∷ (0, Withdraw) ∷ (0, Withdraw) ∷ (0, OwnCall) ∷ []) ≡ (Taken 0 0 ∷ Done ∷ NoBid ∷ Own (pos 0) [] ∷ [], [])
withdrawn_bid_is_gone = refl

-- ---- hotels

-- sixteen points of one unit, at 100 to 115
abbrev sixteen_points : Call
sixteen_points = Bid (map (point (pos 1)) (100 ∷ 101 ∷ 102 ∷ 103 ∷ 104 ∷ 105 ∷ 106 ∷ 107 ∷ 108 ∷ 109 ∷ 110 ∷ 111 ∷ 112 ∷ 113 ∷ 114 ∷ 115 ∷ []))

price_of_the_last_room_is_paid_for_all : (run hotel ((0, sixteen_points) ∷ (8, Close) ∷ []) ≡ (Taken 0 0 ∷ Sold 16 100 ∷ [], from_house 0 8 16 100 ∷ []))
    × (run hotel ((0, buy 15 100) ∷ (8, Close) ∷ []) ≡ (Taken 0 0 ∷ Sold 15 0 ∷ [], from_house 0 8 15 0 ∷ []))
    × (run hotel ((8, Close) ∷ []) ≡ (Sold 0 0 ∷ [], []))
    × (run (record { good = 8; rules = HotelRules 64 false; endow = nothing_held }) ((0, buy 16 100) ∷ (1, buy 16 90) ∷ (2, buy 16 80) ∷ (3, buy 16 70) ∷ (8, Close) ∷ []) ≡ (Taken 0 0 ∷ Taken 0 0 ∷ Taken 0 0 ∷ Taken 0 0 ∷ Sold 64 70 ∷ [], from_house 0 8 16 70 ∷ from_house 1 8 16 70 ∷ from_house 2 8 16 70 ∷ from_house 3 8 16 70 ∷ []))
price_of_the_last_room_is_paid_for_all = (refl, refl, refl, refl)

earlier_of_equal_bids_wins : run hotel ((0, buy 15 200) ∷ (1, buy 1 150) ∷ (2, buy 1 150) ∷ (8, Close) ∷ [])
    ≡ (Taken 0 0 ∷ Taken 0 0 ∷ Taken 0 0 ∷ Sold 16 150 ∷ [], from_house 0 8 15 150 ∷ from_house 1 8 1 150 ∷ [])
earlier_of_equal_bids_wins = refl

new_bid_takes_its_own_place_in_time : run hotel ((0, buy 13 100) ∷ (1, buy 3 120) ∷ (8, Publish) ∷ (2, buy 14 101) ∷ (1, buy 3 101) ∷ (8, Close) ∷ [])
    ≡ (Taken 0 0 ∷ Taken 0 0 ∷ Done ∷ Taken 0 0 ∷ Taken 0 0 ∷ Sold 16 101 ∷ [], from_house 1 8 2 101 ∷ from_house 2 8 14 101 ∷ [])
new_bid_takes_its_own_place_in_time = refl

fewer_units_do_not_replace_those_that_win : (run hotel ((0, buy 13 100) ∷ (1, buy 3 120) ∷ (8, Publish) ∷ (1, Bid (point (pos 2) 150 ∷ point (pos 1) 100 ∷ [])) ∷ []) ≡ (Taken 0 0 ∷ Taken 0 0 ∷ Done ∷ BelowQuote 3 101 2 ∷ [], []))
    × (run hotel ((0, buy 15 10) ∷ (8, Publish) ∷ (0, buy 1 1) ∷ []) ≡ (Taken 0 0 ∷ Done ∷ BelowQuote 15 1 1 ∷ [], []))
fewer_units_do_not_replace_those_that_win = (refl, refl)

enough_at_one_dollar_more : run hotel ((0, buy 16 50) ∷ (8, Publish) ∷ (1, buy 1 50) ∷ (1, buy 1 51) ∷ (8, Close) ∷ [])
    ≡ (Taken 0 0 ∷ Done ∷ BelowQuote 1 51 0 ∷ Taken 0 0 ∷ Sold 16 50 ∷ [], from_house 0 8 15 50 ∷ from_house 1 8 1 50 ∷ [])
enough_at_one_dollar_more = refl

-- two bids fill the 16 rooms
abbrev two_bids : List (ℕ × Call)
two_bids = (0, buy 13 100) ∷ (1, buy 3 120) ∷ []

two_bids_win_until_the_closing : (ask 16 (standing_units (HotelRules 16 false) (played hotel two_bids)) ≡ 100)
    × (map (rooms_won 16 (standing_units (HotelRules 16 false) (played hotel two_bids))) (0 ∷ 1 ∷ 2 ∷ []) ≡ 13 ∷ 3 ∷ 0 ∷ [])
    × (standing_units (HotelRules 16 false) (played hotel (two_bids ++ (8, Close) ∷ [])) ≡ [])
two_bids_win_until_the_closing = (refl, refl, refl)

ask_is_shown_when_published_or_closed : (shown hotel ((0, buy 1 50) ∷ []) ≡ record { count = 1; bid = 0; ask = 0; closed = false })
    × (shown hotel (two_bids ++ (8, Close) ∷ []) ≡ record { count = 3; bid = 0; ask = 100; closed = true })
ask_is_shown_when_published_or_closed = (refl, refl)

-- one room, and live quotes
abbrev live_hotel : Setup
live_hotel = record { good = 8; rules = HotelRules 1 true; endow = nothing_held }

live_bid_must_beat_the_last_one : (run live_hotel ((0, buy 1 50) ∷ (1, buy 1 50) ∷ (1, buy 1 51) ∷ (8, Close) ∷ []) ≡ (Taken 0 0 ∷ BelowQuote 1 51 0 ∷ Taken 0 0 ∷ Sold 1 51 ∷ [], from_house 1 8 1 51 ∷ []))
    × (shown live_hotel ((0, buy 1 50) ∷ []) ≡ record { count = 1; bid = 0; ask = 50; closed = false })
    × (shown live_hotel ((0, buy 1 50) ∷ (1, buy 1 50) ∷ []) ≡ record { count = 2; bid = 0; ask = 50; closed = false })
    × (shown live_hotel ((0, buy 1 50) ∷ (1, buy 1 50) ∷ (1, buy 1 51) ∷ []) ≡ record { count = 3; bid = 0; ask = 51; closed = false })
live_bid_must_beat_the_last_one = (refl, refl, refl, refl)

-- ---- flights

draws_raise_and_lower_the_price : (next_price 300 (pos 30) 27 30 ≡ 320) × (next_price 300 (neg_ℤ (pos 10)) 28 0 ≡ 299)
draws_raise_and_lower_the_price = (refl, refl)

price_stops_at_800_and_150 : (next_price 795 (pos 30) 27 30 ≡ 800) × (next_price 151 (pos 10) 1 0 ≡ 150)
price_stops_at_800_and_150 = (refl, refl)

-- a bid at 150 when the price is 250, and updates at the ticks 1 to 10 by the draw 0
abbrev falling : List (ℕ × Call)
falling = (0, buy 2 150) ∷ map (λ tick. (8, Update tick 0)) (1 ∷ 2 ∷ 3 ∷ 4 ∷ 5 ∷ 6 ∷ 7 ∷ 8 ∷ 9 ∷ 10 ∷ [])

falling_price_reaches_a_bid : (run (flight 250) falling ≡ (Taken 0 0 ∷ replicate 10 Done, from_house 0 0 2 150 ∷ []))
    × (map (λ e. length e.trades) (reverse (played (flight 250) falling)) ≡ replicate 10 0 ++ 1 ∷ [])
falling_price_reaches_a_bid = (refl, refl)

one_dollar_below_the_price : run (flight 300) ((0, buy 1 299) ∷ (1, buy 1 300) ∷ (2, buy 1 301) ∷ []) ≡ (Taken 0 0 ∷ Taken 1 0 ∷ Taken 1 0 ∷ [], from_house 1 0 1 300 ∷ from_house 2 0 1 300 ∷ [])
one_dollar_below_the_price = refl

points_above_the_price_are_sold_one_by_one :
    (run (flight 300) ((0, Bid (point (pos 1) 300 ∷ point (pos 2) 200 ∷ point (pos 1) 400 ∷ [])) ∷ (0, OwnCall) ∷ []) ≡ (Taken 2 0 ∷ Own (pos 2) (point (pos 2) 200 ∷ []) ∷ [], from_house 0 0 1 300 ∷ from_house 0 0 1 300 ∷ []))
    × (run (flight 300) ((0, buy 1 300) ∷ []) ≡ (Taken 1 0 ∷ [], from_house 0 0 1 300 ∷ []))
    × (run (flight 300) ((0, buy 16 10000) ∷ []) ≡ (Taken 16 0 ∷ [], from_house 0 0 16 300 ∷ []))
points_above_the_price_are_sold_one_by_one = (refl, refl, refl)

sold_units_never_stand_again : run (flight 300) ((0, buy 1 300) ∷ (0, OwnCall) ∷ (8, Update 1 0) ∷ (0, OwnCall) ∷ []) ≡ (Taken 1 0 ∷ Own (pos 1) [] ∷ Done ∷ Own (pos 1) [] ∷ [], from_house 0 0 1 300 ∷ [])
sold_units_never_stand_again = refl

-- ---- tickets

equal_prices_trade : run tickets ((0, sell 1 60) ∷ (1, buy 1 59) ∷ (2, buy 1 60) ∷ []) ≡ (Taken 0 0 ∷ Taken 0 0 ∷ Taken 1 0 ∷ [], one_ticket 2 0 60 ∷ [])
equal_prices_trade = refl

cheapest_then_earliest_and_dearest_first : (run tickets ((0, sell 1 60) ∷ (1, sell 1 50) ∷ (2, sell 1 50) ∷ (3, buy 2 90) ∷ []) ≡ (Taken 0 0 ∷ Taken 0 0 ∷ Taken 0 0 ∷ Taken 2 0 ∷ [], one_ticket 3 1 50 ∷ one_ticket 3 2 50 ∷ []))
    × (run tickets ((0, buy 1 60) ∷ (1, buy 1 80) ∷ (2, sell 1 40) ∷ []) ≡ (Taken 0 0 ∷ Taken 0 0 ∷ Taken 0 1 ∷ [], one_ticket 1 2 80 ∷ []))
cheapest_then_earliest_and_dearest_first = (refl, refl)

trade_is_at_the_standing_price : (run tickets ((0, sell 1 60) ∷ (1, buy 2 70) ∷ []) ≡ (Taken 0 0 ∷ Taken 1 0 ∷ [], one_ticket 1 0 60 ∷ []))
    × (shown tickets ((0, sell 1 60) ∷ (1, buy 2 70) ∷ []) ≡ record { count = 2; bid = 70; ask = 0; closed = false })
trade_is_at_the_standing_price = (refl, refl)

new_bid_does_not_meet_the_old_one : (run tickets ((0, sell 1 60) ∷ (0, buy 1 70) ∷ (0, OwnCall) ∷ []) ≡ (Taken 0 0 ∷ Taken 0 0 ∷ Own (pos 0) (point (pos 1) 70 ∷ []) ∷ [], []))
    × (shown tickets ((0, sell 1 60) ∷ (0, buy 1 70) ∷ []) ≡ record { count = 2; bid = 70; ask = 0; closed = false })
new_bid_does_not_meet_the_old_one = (refl, refl)

-- an agent sells two tickets that it does not have
abbrev short_sale : List (ℕ × Call)
short_sale = (1, sell 2 60) ∷ (0, buy 1 70) ∷ (2, buy 1 70) ∷ (1, OwnCall) ∷ (8, Close) ∷ []

holding_may_be_negative : run tickets short_sale ≡ (Taken 0 0 ∷ Taken 1 0 ∷ Taken 1 0 ∷ Own (neg_ℤ (pos 2)) [] ∷ Done ∷ [], one_ticket 0 1 60 ∷ one_ticket 2 1 60 ∷ [])
holding_may_be_negative = refl

part_has_its_positions : map (λ p. p.0) (callers_part (reverse (played tickets short_sale)) 1) ≡ 0 ∷ 3 ∷ []
part_has_its_positions = refl

part_of_a_sale_is_left : run tickets ((1, sell 2 60) ∷ (0, buy 1 70) ∷ (1, OwnCall) ∷ []) ≡ (Taken 0 0 ∷ Taken 1 0 ∷ Own (neg_ℤ (pos 1)) (point (neg_ℤ (pos 1)) 60 ∷ []) ∷ [], one_ticket 0 1 60 ∷ [])
part_of_a_sale_is_left = refl

-- ---- dollars and histories

buyers_pay_and_nets_add_up_to_0 : (dollars (from_house 0 0 1 300 ∷ from_house 0 4 1 300 ∷ one_ticket 0 1 60 ∷ []) 0 ≡ neg_ℤ (pos 660))
    × (nets (one_ticket 0 1 60 ∷ one_ticket 2 1 60 ∷ []) ≡ neg_ℤ (pos 60) ∷ pos 120 ∷ neg_ℤ (pos 60) ∷ pos 0 ∷ pos 0 ∷ pos 0 ∷ pos 0 ∷ pos 0 ∷ pos 0 ∷ [])
buyers_pay_and_nets_add_up_to_0 = (refl, refl)

cap_of_agents_and_clock : map cap (0 ∷ 7 ∷ 8 ∷ []) ≡ 1024 ∷ 1024 ∷ 64 ∷ []
cap_of_agents_and_clock = refl

history_is_lawful_by_its_replies : AreDueEntries hotel (played hotel ((0, buy 1 5) ∷ (8, Publish) ∷ []))
    × (AreDueEntries hotel (record { caller = 8; call = Publish; reply = Closed; trades = [] } ∷ []) → ⊥)
history_is_lawful_by_its_replies = ((refl, (refl, tt)), (λ lawful. let e : Closed ≡ Done = ap (λ (e : Entry). e.reply) lawful.0 in cc))
