-- What an auction shows, in a form of our own. For `stand` and `published` read `standing_units` (`Standing`) and `published_price`
-- (`Ask`): `standing_same` (proofs/SameStanding) and `published_same` (proofs/SameRules) prove them equal. They stand here because the
-- types of the locks above would be too large for the prover with the plainer forms.
use Rattle.std.specs.Prelude.{ℕ, max, min, not, List, [], ◌∷◌, length, map, filter, fold}
use Rattle.tac_base.specs.declared.calls.Board.{Board}
use Rattle.auction_rules.specs.declared.units.BidUnit.{BidUnit}
use Rattle.auction_rules.specs.declared.rules.Rules.{Rules}
use Rattle.auction_rules.specs.declared.rules.Rules.TheVariants.{Flight as FlightRules, Hotel as HotelRules, Tickets as TicketRules}
use Rattle.auction_rules.specs.History.{Entry, is_closed}
use Rattle.auction_rules.specs.FlightRule.{price}
use Rattle.auction_rules.specs.BookStanding.{stand}
use Rattle.auction_rules.specs.BookHotels.{published}

-- the highest price of a buying unit, 0 if there is none
abbrev pub highest_buy : List BidUnit → ℕ
highest_buy units = fold max 0 (map (λ u. u.price) (filter (λ u. u.buys) units))

-- the lowest of the numbers, 0 if there is none
abbrev pub lowest : List ℕ → ℕ
lowest [] = 0
lowest (n ∷ ns) = fold min n ns

-- the lowest price of a selling unit, 0 if there is none
abbrev pub lowest_sell : List BidUnit → ℕ
lowest_sell units = lowest (map (λ u. u.price) (filter (λ u. not u.buys) units))

-- The bid of a board is the highest standing bid for tickets, and 0 for a flight or a hotel night.
abbrev pub shown_bid : Rules → List Entry → ℕ
shown_bid TicketRules past = highest_buy (stand TicketRules past)
shown_bid rules past = 0

-- The ask of a board is a flight's price, a hotel night's published price, or the lowest standing ask for tickets.
abbrev pub shown_ask : Rules → List Entry → ℕ
shown_ask (FlightRules first bound) past = price first bound past
shown_ask (HotelRules rooms live) past = published rooms live past
shown_ask TicketRules past = lowest_sell (stand TicketRules past)

-- A board shows the length of the history, a bid, an ask, and whether the auction is closed.
-- Row: ask_is_shown_when_published_or_closed (worked_rows/proofs/Auctions.antt)
-- Row: trade_is_at_the_standing_price (worked_rows/proofs/Auctions.antt)
abbrev pub board : Rules → List Entry → Board
board rules past = record { count = length past; bid = shown_bid rules past; ask = shown_ask rules past; closed = is_closed past }
