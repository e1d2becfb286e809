-- What a contract sees of a hotel auction, and the pasts that it stands for.
use Rattle.std.specs.Prelude.{◌≡◌, ℕ, suc, ◌+◌, ◌≤◌, ◌==◌, max, min, ⊤, Bool, if◌then◌else◌, List, [], ◌∷◌, length, slice_set, Option, Some, None, filter_map}
use Rattle.hotel_book.specs.Prelude.{Point, Trade, Reply, Closed, Sold, Unit as ShownUnit, AGENTS, BID_PRICE, BID_UNITS, STANDING_UNITS, agents, house, Placed, BidUnit, Setup, Hotel as HotelRules, units_of, AreShown, Entry, last_bids, is_closed, units_of_bids, published, ask, hotel_refusal}

-- a hotel's good and its rules, the last bid of each agent in order, the published price, and whether it is closed
pub record HotelBook : Type 0 where
  pub good : ℕ
  pub rooms : ℕ
  pub live : Bool
  pub bids : List (Option Placed)
  pub published : ℕ
  pub closed : Bool

-- what a hotel keeps of a past
abbrev pub hotel_book : ℕ → ℕ → Bool → List Entry → HotelBook
hotel_book good rooms live past =
    record { good = good; rooms = rooms; live = live; bids = last_bids past; published = published rooms live past; closed = is_closed past }

-- the book stands for this past of an auction with this setup
pub record HotelStandsFor (book : HotelBook) (setup : Setup) (past : List Entry) : Type 0 where
  pub rules : setup.rules ≡ HotelRules book.rooms book.live
  pub kept : book ≡ hotel_book setup.good book.rooms book.live past

-- each bid is of the agent at whose place it is kept, counted from an agent on, and has at most 16 units
abbrev pub AreOwn : ℕ → List (Option Placed) → Type 0
AreOwn from [] = ⊤
AreOwn from (None ∷ bids) = AreOwn (suc from) bids
AreOwn from (Some bid ∷ bids) = (bid.agent ≡ from) × (length (units_of bid) ≤ BID_UNITS) × AreOwn (suc from) bids

-- what stands of the bids: all their units in an open hotel, and nothing in a closed one
abbrev pub standing : List (Option Placed) → Bool → List BidUnit
standing bids closed = if closed then [] else units_of_bids bids

-- the units that a hotel keeps in order are those that stand
pub record AreUnitsKept (bids : List (Option Placed)) (closed : Bool) (units : List ShownUnit) (price : ℕ) : Type 0 where
  pub eight : length bids ≡ AGENTS
  pub own : AreOwn 0 bids
  pub shown : AreShown (standing bids closed) units
  pub priced : price ≤ BID_PRICE

-- a book with a bid in place of its agent's earlier one; if quotes are live, the ask of the units that then stand is published
abbrev pub with_bid : HotelBook → Placed → HotelBook
with_bid book bid =
    let bids = slice_set book.bids bid.agent (Some bid) in
    record book { bids = bids; published = if book.live then ask book.rooms (units_of_bids bids) else book.published }

-- how many units may still be sold: 16 of each of the eight agents while the hotel is open
abbrev pub hotel_units_left : HotelBook → ℕ
hotel_units_left book = if book.closed then 0 else STANDING_UNITS

-- the refusal of the bid of an agent that would win this many units, if there is one, by the published price
abbrev pub book_refusal : ℕ → ℕ → Bool → List Point → Option Reply
book_refusal won price closed points = if closed then Some Closed else hotel_refusal (max 1 won) (price + 1) points

-- the reply to the closing of a hotel where these units stand: as many are sold, up to the rooms, at the ask
abbrev pub sale_of : ℕ → List BidUnit → Reply
sale_of rooms units = Sold (min rooms (length units)) (ask rooms units)

-- what an agent buys that wins this many units, each at a price
abbrev pub winner_trade : ℕ → ℕ → (ℕ → ℕ) → ℕ → Option Trade
winner_trade good price won agent = if won agent == 0 then None else Some (record { buyer = agent; seller = house; good = good; units = won agent; price = price })

-- one trade for each agent that wins a unit, in ascending order of agents
abbrev pub winner_trades : ℕ → ℕ → (ℕ → ℕ) → List Trade
winner_trades good price won = filter_map (winner_trade good price won) agents
