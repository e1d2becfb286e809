-- What a contract sees of a ticket auction, and the pasts that it stands for.
use Rattle.std.specs.Prelude.{◌≡◌, ℕ, Bool, List, Option}
use Rattle.ticket_book.specs.Prelude.{Placed, Setup, Tickets as TicketRules, Entry, last_bids, is_closed, stand}
use Rattle.ticket_book.specs.Sides.{SortedSides, both, HaveSame}

-- a ticket auction's good, the last bid of each agent in order, the units that stand, and whether it is closed
pub record TicketBook : Type 0 where
  pub good : ℕ
  pub bids : List (Option Placed)
  pub sides : SortedSides
  pub closed : Bool

-- the book stands for this past of an auction with this setup
pub record TicketsStandFor (book : TicketBook) (setup : Setup) (past : List Entry) : Type 0 where
  pub rules : setup.rules ≡ TicketRules
  pub good : book.good ≡ setup.good
  pub bids : book.bids ≡ last_bids past
  pub units : HaveSame (both book.sides) (stand TicketRules past)
  pub closed : book.closed ≡ is_closed past
