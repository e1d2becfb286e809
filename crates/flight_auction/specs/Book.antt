-- What a contract sees of a flight auction, and the pasts that it stands for.
use Rattle.std.specs.Prelude.{◌≡◌, ℕ, ◌==◌, Bool, not, nat_le, ◌≤◌, List, All, Any, ℤ, pos, negsuc, ◌≤ℤ◌, None, map, filter, sum_by}
use Rattle.flight_auction.specs.Prelude.{Point, Trade, Setup, Flight as FlightRules, Entry, is_closed, price, sale, standing_points, size_of, left_fault, StandingPoint}

-- ---- standing points

abbrev pub is_points_agent : ℕ → StandingPoint → Bool
is_points_agent agent standing = standing.agent == agent

-- the agent's points among all, and those of the others
abbrev pub agents_points : ℕ → List StandingPoint → List Point
agents_points agent standing = map (λ s. s.point) (filter (is_points_agent agent) standing)

abbrev pub others_than : ℕ → List StandingPoint → List StandingPoint
others_than agent standing = filter (λ s. not (is_points_agent agent s)) standing

-- whether the house sells a point at a price
abbrev pub reaches : ℕ → StandingPoint → Bool
reaches price standing = nat_le price standing.point.price

-- what is sold of the standing points at a price, one trade for each point, and what is left of them
abbrev pub sales : ℕ → ℕ → List StandingPoint → List Trade
sales good price standing = map (sale good price) (filter (reaches price) standing)

abbrev pub unsold : ℕ → List StandingPoint → List StandingPoint
unsold price standing = filter (λ s. not (reaches price s)) standing

-- the trade is the sale of one of the points, whole and for no more than the point's price
abbrev pub IsPaid : List StandingPoint → Trade → Type 0
IsPaid standing trade = Any (λ s. (s.agent ≡ trade.buyer) × (size_of s.point ≡ trade.units) × (trade.price ≤ s.point.price)) standing

-- ---- the book

-- a flight's good, bound and price, the points that stand, and whether it is closed
pub record FlightBook : Type 0 where
  pub good : ℕ
  pub bound : ℤ
  pub price : ℕ
  pub standing : List StandingPoint
  pub closed : Bool

-- the invariant of every flight: its price and its bound are in range, and what each agent has standing is within
-- the limits of a bid
pub record IsFlightSound (bound : ℤ) (price : ℕ) (standing : List StandingPoint) : Type 0 where
  pub bound_from : negsuc 9 ≤ℤ bound
  pub bound_to : bound ≤ℤ pos 30
  pub price_from : 150 ≤ price
  pub price_to : price ≤ 800
  pub owned : All (λ s. s.agent ≤ 7) standing
  pub limited : (agent : ℕ) → left_fault (agents_points agent standing) ≡ None

-- the units of standing points
abbrev pub units_standing : List StandingPoint → ℕ
units_standing standing = sum_by (λ s. size_of s.point) standing

-- how many units the house may still sell if nobody makes a new bid
abbrev pub flight_units_left : FlightBook → ℕ
flight_units_left book = units_standing book.standing

-- what a flight keeps of a past
abbrev pub flight_book : ℕ → ℕ → ℤ → List Entry → FlightBook
flight_book good first bound past = record {
  good = good;
  bound = bound;
  price = price first bound past;
  standing = standing_points (FlightRules first bound) past;
  closed = is_closed past;
}

-- the book stands for this past of an auction with this setup
pub record FlightStandsFor (book : FlightBook) (setup : Setup) (past : List Entry) : Type 0 where
  pub first : ℕ
  pub rules : setup.rules ≡ FlightRules first book.bound
  pub kept : book ≡ flight_book setup.good first book.bound past
