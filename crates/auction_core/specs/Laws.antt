-- The laws of the auctions: what every call preserves, whoever makes it. Each compares an auction before the call and after it.
use Rattle.std.specs.Prelude.{◌≡◌, ℕ, ◌≤◌, ◌<◌, ◌==◌, min, ⊤, true, false, ◌&&◌, nat_le, List, [], ◌∷◌, All, length, reverse, filter, sum_by, count_by}
use Rattle.auction_core.specs.Prelude.{Trade, BidUnit, Rules, price, looked_at, stand, published, board, traded, HasTwoParties, IsFlightPrice, sum_held}
use Rattle.auction_rules.specs.declared.rules.Rules.TheVariants.{Flight as FlightRules, Hotel as HotelRules, Tickets as TicketRules}
use Rattle.auction_rules.specs.History.{Entry, is_closed}
use Rattle.auction_core.specs.Books.{held_by}
use Rattle.auction_core.specs.Auctions.{AuctionHistory}

-- what happened, the newest entry first
abbrev pub auction_past : AuctionHistory → List Entry
auction_past auction = reverse auction.history

-- the trades of the newest entry
abbrev pub newest_trades : List Entry → List Trade
newest_trades [] = []
newest_trades (e ∷ past) = e.trades

-- a hotel's published price does not fall
abbrev pub NoLower : Rules → List Entry → List Entry → Type 0
NoLower (HotelRules rooms live) past next = published rooms live past ≤ published rooms live next
NoLower rules past next = ⊤

abbrev pub KeepsQuote : AuctionHistory → AuctionHistory → Type 0
KeepsQuote before after = NoLower before.setup.rules (auction_past before) (auction_past after)

-- once an auction is closed nothing is traded
abbrev pub TradesWhileOpen : AuctionHistory → AuctionHistory → Type 0
TradesWhileOpen before after = is_closed (auction_past before) ≡ true → newest_trades (auction_past after) ≡ []

-- a hotel that closes sells as many units as stand, up to its rooms
abbrev pub SellsAll : Rules → List Entry → List Entry → Type 0
SellsAll (HotelRules rooms live) past next =
    is_closed past ≡ false → is_closed next ≡ true → traded (newest_trades next) ≡ min rooms (length (stand (HotelRules rooms live) past))
SellsAll rules past next = ⊤

abbrev pub SellsRooms : AuctionHistory → AuctionHistory → Type 0
SellsRooms before after = SellsAll before.setup.rules (auction_past before) (auction_past after)

-- the holdings of the nine parties keep their sum
abbrev pub KeepsSum : AuctionHistory → AuctionHistory → Type 0
KeepsSum before after = sum_held (held_by after.setup (auction_past after)) ≡ sum_held (held_by before.setup (auction_past before))

-- nobody trades with itself
abbrev pub HasNoSelfTrade : AuctionHistory → Type 0
HasNoSelfTrade after = All HasTwoParties (newest_trades (auction_past after))

-- a flight's price is in 150..800
abbrev pub IsPriced : Rules → List Entry → Type 0
IsPriced (FlightRules first bound) past = IsFlightPrice (price first bound past)
IsPriced rules past = ⊤

abbrev pub KeepsPrice : AuctionHistory → Type 0
KeepsPrice after = IsPriced after.setup.rules (auction_past after)

-- the units that a party buys in trades at a price or more
abbrev pub bought_at : List Trade → ℕ → ℕ → ℕ
bought_at trades party price = sum_by (λ t. t.units) (filter (λ t. (t.buyer == party) && nat_le price t.price) trades)

-- how many of the units are the party's, buy, and bid the price or more
abbrev pub bid_at : List BidUnit → ℕ → ℕ → ℕ
bid_at units party price = count_by (λ u. u.buys && ((u.agent == party) && nat_le price u.price)) units

-- Nobody pays more than it bid: at any given price, an agent buys no more units at that price or more in a call than it has units that
-- bid so much, standing before the call, or, if it makes a new bid, new with that bid.
abbrev pub ArePaid : Rules → List Entry → Type 0
ArePaid rules [] = ⊤
ArePaid rules (e ∷ past) =
    (agent price : ℕ) → agent ≤ 7 → bought_at e.trades agent price ≤ bid_at (looked_at (stand rules past) (length past) e.caller e.call) agent price

abbrev pub NobodyOverpays : AuctionHistory → Type 0
NobodyOverpays after = ArePaid after.setup.rules (auction_past after)

-- if tickets show a bid and an ask, the bid is below the ask
abbrev pub IsApart : Rules → List Entry → Type 0
IsApart TicketRules past = 0 < (board TicketRules past).bid → 0 < (board TicketRules past).ask → (board TicketRules past).bid < (board TicketRules past).ask
IsApart rules past = ⊤

abbrev pub IsUncrossed : AuctionHistory → Type 0
IsUncrossed after = IsApart after.setup.rules (auction_past after)
