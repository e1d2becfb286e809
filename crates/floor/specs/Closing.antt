-- What holds of a game whose calls are over.
use Rattle.std.specs.Prelude.{◌≡◌, ℕ, ◌≤◌, List, [], map, length, reverse, take, slice_get, Some, None}
use Rattle.std.specs.List.{AllZip}
use mathlib.Core.Option.{some}
use lib.ListN.{get_elem?}
use Rattle.turn_lock.specs.declared.lock.TurnLock.{TurnLock}
use Rattle.floor.specs.Prelude.{Board, Points, Bid, Taken, Entry, Legal, refusal, AuctionHistory, ClosedGame, Returned, part, AreNotes, AreKnown, start_of, passes_of, returned_to}
use Rattle.floor.specs.declared.desk.Desk.{Desk}
use Rattle.floor.specs.Desks.{desk_caller, desk_entries, desk_cash, boards_of}
use Rattle.floor.specs.ClosedBoards.{board_of}

-- an auction that a lock gave back: its setup is that of its start, its history is legal, what the returned passes knew holds of the
-- history, and callers without a pass have no entry
pub record IsGivenBack (start : AuctionHistory) (passes : ℕ) (returned : List (Returned Entry)) (auction : AuctionHistory) : Type 0 where
  pub setup : auction.setup ≡ start.setup
  pub legal : Legal auction.setup auction.history
  pub known : AreKnown (board_of auction) (λ e. e.caller) auction.history returned
  pub nobody_else : (c : ℕ) → passes ≤ c → part (λ e. e.caller) auction.history c ≡ []

module _ {C R G : Type 0} where
  -- at each place that both lists have, the lock gave back the auction
  abbrev pub AreGivenBack : List (TurnLock AuctionHistory C R G Entry) → List AuctionHistory → Type 0
  AreGivenBack locks auctions = (good : ℕ) (lock : _) (auction : _) → get_elem? locks good ≡ some lock → get_elem? auctions good ≡ some auction
      → IsGivenBack (start_of lock) (passes_of lock) (returned_to lock) auction

-- each board that was seen of a good is that of the prefix of its history of the length that it states
abbrev pub AreSeenBoards : List AuctionHistory → List (List (ℕ × Board)) → Type 0
AreSeenBoards auctions boards = AllZip (λ auction seen. AreNotes (board_of auction) auction.history (length auction.history) seen) auctions boards

-- what a desk knew holds of the closed game: its own entries are its caller's part of each history, and its boards are of prefixes
pub record IsBorneOut (closed : ClosedGame) (d : Desk) : Type 0 where
  pub entries : desk_entries d ≡ map (λ auction. part (λ e. e.caller) auction.history (desk_caller d)) closed.auctions
  pub cash : desk_cash d ≡ part (λ e. e.caller) closed.cash (desk_caller d)
  pub boards : AreSeenBoards closed.auctions (boards_of d)

-- each bid to which no refusal applied after the entries before it is taken
abbrev pub TakesLawfulBids : AuctionHistory → Type 0
TakesLawfulBids auction = (position : ℕ) (e : Entry) (points : Points) → slice_get auction.history position ≡ Some e → e.call ≡ Bid points
    → refusal auction.setup.rules (reverse (take position auction.history)) e.caller e.call ≡ None
    → (bought : ℕ) × (sold : ℕ) × (e.reply ≡ Taken bought sold)
