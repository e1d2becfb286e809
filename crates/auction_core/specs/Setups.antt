-- What a game file fixes for an auction, by our own form of the file.
use Rattle.std.specs.Prelude.{ℕ, ◌-◌, ◌≤◌, ⊤, List, ℤ, pos, negsuc, ◌≤ℤ◌, map, replicate, slice_index_or}
use Rattle.tac_base.specs.declared.limits.TheConstants.{AGENTS, NIGHT_ROOMS}
use Rattle.tac_base.specs.Kinds.{kind_of}
use Rattle.game_text.specs.Games.{GameFile}
use Rattle.auction_rules.specs.Setup.{Setup}
use Rattle.auction_rules.specs.declared.rules.Rules.{Rules}
use Rattle.tac_base.specs.declared.numbers.Kind.{Kind}
use Rattle.tac_base.specs.declared.numbers.Kind.TheVariants.{Flight, Hotel, Ticket}
use Rattle.auction_rules.specs.declared.rules.Rules.TheVariants.{Flight as FlightRules, Hotel as HotelRules, Tickets as TicketRules}

-- A flight has its first price and its bound, and a hotel night its rooms, and whether quotes are live. The flights of the game file
-- are goods 0 to 7 in order, and its hotel nights goods 8 to 15.
abbrev pub rules_by : GameFile → ℕ → Kind → Rules
rules_by game good Flight =
    FlightRules (slice_index_or (map (λ flight. flight.first) game.flights) good 0) (slice_index_or (map (λ flight. flight.bound) game.flights) good (pos 0))
rules_by game good Hotel = HotelRules (slice_index_or game.rooms (good - 8) 0) game.live
rules_by game good Ticket = TicketRules

-- At the start an agent has its tickets of the game file, whose twelve counts are for goods 16 to 27 in order, and nothing of other
-- goods.
-- Row: tickets_are_those_of_their_goods (worked_rows/proofs/Links.antt)
abbrev pub endow_by : GameFile → ℕ → Kind → List ℤ
endow_by game good Ticket = map (λ tickets. pos (slice_index_or tickets (good - 16) 0)) game.endow
endow_by game good kind = replicate AGENTS (pos 0)

-- the setup of a good's auction
-- Row: auctions_have_their_rules (worked_rows/proofs/Links.antt)
-- Row: tickets_are_those_of_their_goods (worked_rows/proofs/Links.antt)
abbrev pub setup_of : ℕ → GameFile → Setup
setup_of good game = record { good = good; rules = rules_by game good (kind_of good); endow = endow_by game good (kind_of good) }

-- the kind of goods with these rules
abbrev pub kind_by : Rules → Kind
kind_by (FlightRules first bound) = Flight
kind_by (HotelRules rooms live) = Hotel
kind_by TicketRules = Ticket

-- rules that a game can have: a flight starts at 250..400 and has a bound of -10..30, and a hotel night has 1..64 rooms
abbrev pub AreInRange : Rules → Type 0
AreInRange (FlightRules first bound) = (250 ≤ first) × (first ≤ 400) × (negsuc 9 ≤ℤ bound) × (bound ≤ℤ pos 30)
AreInRange (HotelRules rooms live) = (1 ≤ rooms) × (rooms ≤ NIGHT_ROOMS)
AreInRange TicketRules = ⊤

-- each agent has 0 to 16 units at the start
abbrev pub AreEndowed : List ℤ → Type 0
AreEndowed endow = (agent : ℕ) → (pos 0 ≤ℤ slice_index_or endow agent (pos 0)) × (slice_index_or endow agent (pos 0) ≤ℤ pos 16)
