-- What a hotel sells at its closing: by the game description the units with the highest prices win, as many as there are rooms, and
-- all pay the same price. The order at equal prices, and that of the trades, are our own rules.
use Rattle.std.specs.Prelude.{ℕ, ◌==◌, Bool, not, ◌&&◌, nat_lt, List, count_by, map, filter}
use Rattle.tac_base.specs.declared.calls.Trade.{Trade}
use Rattle.tac_base.specs.Goods.{agents, house}
use Rattle.auction_rules.specs.declared.units.BidUnit.{BidUnit}
use Rattle.auction_rules.specs.TicketMatch.{goes_before}
use Rattle.auction_rules.specs.Ask.{ask}

-- A unit gets a room at the closing if fewer units go before it than the night has rooms. Hotel units only buy: of two, the one with the
-- higher price goes first, then the one of the earlier bid, and within one bid the one with the lower index.
abbrev pub gets_room : ℕ → List BidUnit → BidUnit → Bool
gets_room rooms units u = nat_lt (count_by (λ v. goes_before v u) units) rooms

-- how many of the agent's units get a room
abbrev pub rooms_won : ℕ → List BidUnit → ℕ → ℕ
rooms_won rooms units agent = count_by (λ u. (u.agent == agent) && gets_room rooms units u) units

-- Each winning agent has one trade, and the trades are in the order of the agents' numbers. All winning units pay the ask: with 16
-- rooms, the 16th highest price, or 0 if fewer units stand than there are rooms.
abbrev pub room_sales : ℕ → ℕ → List BidUnit → List Trade
room_sales good rooms units =
    map (λ agent. record { buyer = agent; seller = house; good = good; units = rooms_won rooms units agent; price = ask rooms units })
    (filter (λ agent. not (rooms_won rooms units agent == 0)) agents)
