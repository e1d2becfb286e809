-- Hotels in the form that the books compute: with an order of buying units alone, over the units that `stand`. Read `published_price` in
-- `Ask` and `gets_room` to `room_sales` in `HotelClosing` instead: `published_same` (proofs/SameRules) and `winning_same`, `sold_same` and
-- `closing_same` (proofs/SameHotels) prove the two equal in a lawful past.
use Rattle.std.specs.Prelude.{ℕ, ◌+◌, ◌==◌, max, Bool, ◌&&◌, ◌||◌, nat_lt, if◌then◌else◌, List, [], ◌∷◌, Option, Some, None, count_by, filter_map}
use Rattle.auction_rules.specs.Prelude.{Trade, agents, house}
use Rattle.auction_rules.specs.declared.units.BidUnit.{BidUnit}
use Rattle.auction_rules.specs.declared.rules.Rules.TheVariants.{Hotel as HotelRules}
use Rattle.auction_rules.specs.Units.{earlier}
use Rattle.auction_rules.specs.History.{Entry, is_admission, is_bid}
use Rattle.auction_rules.specs.Ask.{ask, publishes}
use Rattle.auction_rules.specs.BookStanding.{stand}

-- the first unit precedes the second: its price is higher, or at equal prices its bid is earlier, or in one bid its index is lower
abbrev pub precedes : BidUnit → BidUnit → Bool
precedes u v = nat_lt v.price u.price || ((u.price == v.price) && earlier u v)

-- whether a unit wins: fewer of the units precede it than there are rooms
abbrev pub wins : ℕ → List BidUnit → BidUnit → Bool
wins rooms units u = nat_lt (count_by (λ v. precedes v u) units) rooms

-- how many of the units are the agent's and win
abbrev pub winning : ℕ → List BidUnit → ℕ → ℕ
winning rooms units agent = count_by (λ u. (u.agent == agent) && wins rooms units u) units

-- what an agent buys: its units that win, each at the ask
abbrev pub closing_trade : ℕ → ℕ → List BidUnit → ℕ → Option Trade
closing_trade good rooms units agent =
    if winning rooms units agent == 0 then None
    else Some (record { buyer = agent; seller = house; good = good; units = winning rooms units agent; price = ask rooms units })

-- one trade for each agent with a winning unit, in ascending order of agents
abbrev pub closing_trades : ℕ → ℕ → List BidUnit → List Trade
closing_trades good rooms units = filter_map (closing_trade good rooms units) agents

-- the number of units that are sold
abbrev pub sold_units : ℕ → List BidUnit → ℕ
sold_units rooms units = count_by (wins rooms units) units

-- the published price: the ask at the last admitted `Publish` or `Close`; if quotes are live, an admitted `Bid` also
-- publishes the ask of the units that stand after it
abbrev pub published : ℕ → Bool → List Entry → ℕ
published rooms live [] = 0
published rooms live (e ∷ past) =
    if is_admission e.reply && publishes e.call then ask rooms (stand (HotelRules rooms live) past)
    else if is_admission e.reply && (is_bid e.call && live) then ask rooms (stand (HotelRules rooms live) (e ∷ past))
    else published rooms live past

-- how many units the agent's bid must offer: as many as it has standing units that win, and at least one
abbrev pub need : ℕ → Bool → List Entry → ℕ → ℕ
need rooms live past agent = max 1 (winning rooms (stand (HotelRules rooms live) past) agent)

-- the lowest price at which they count: one dollar above the published price, even if the standing units have changed since
abbrev pub quote_to_beat : ℕ → Bool → List Entry → ℕ
quote_to_beat rooms live past = published rooms live past + 1
