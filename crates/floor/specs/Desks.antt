-- What clauses say of a desk.
use Rattle.std.specs.Prelude.{◌≡◌, ℕ, List, [], map, replicate, slice_index_or, slice_get, Option, option_and_then, option_map}
use Rattle.floor.specs.Prelude.{Board, Call, GOODS, Entry, Setup, AuctionHistory, CashEntry, LockId, lock_of, caller_of, made_by, noted_by, seen_by}
use Rattle.floor.specs.declared.desk.Desk.{Desk}
use Rattle.floor.specs.Steps.{Step, calls_of_steps}

-- the locks of the desk's passes: those of the auctions, in the order of goods, and that of the cash book
abbrev pub desk_ids : Desk → List (LockId AuctionHistory) × LockId (List CashEntry)
desk_ids d = (map (λ p. lock_of p) d.passes.items, lock_of d.cash)

-- the setup of a good's auction, by the state that its lock was made with
abbrev pub setup_at : Desk → ℕ → Option Setup
setup_at d good = option_and_then (λ id. option_map (λ start. start.setup) id.start) (slice_get (desk_ids d).0 good)

-- whose desk it is
abbrev pub desk_caller : Desk → ℕ
desk_caller d = caller_of d.cash

-- the desk's own entries so far, by good, each with its position
abbrev pub desk_entries : Desk → List (List (ℕ × Entry))
desk_entries d = map (λ p. made_by p) d.passes.items

abbrev pub entries_at : Desk → ℕ → List (ℕ × Entry)
entries_at d good = slice_index_or (desk_entries d) good []

-- its steps so far, in order
abbrev pub desk_steps : Desk → List Step
desk_steps d = d.steps.items

-- its calls of auctions so far with their goods, in the order in which it made them
abbrev pub desk_calls : Desk → List (ℕ × Call)
desk_calls d = calls_of_steps (desk_steps d)

-- its own entries of the cash history so far, each with its position
abbrev pub desk_cash : Desk → List (ℕ × CashEntry)
desk_cash d = made_by d.cash

-- the boards that it saw so far, by good, each with its count
abbrev pub boards_of : Desk → List (List (ℕ × Board))
boards_of d = map (λ p. noted_by p) d.passes.items

abbrev pub boards_at : Desk → ℕ → List (ℕ × Board)
boards_at d good = slice_index_or (boards_of d) good []

-- how long each good's history is at least, by what the desk has seen
abbrev pub seen_of : Desk → List ℕ
seen_of d = map (λ p. seen_by p) d.passes.items

abbrev pub seen_at : Desk → ℕ → ℕ
seen_at d good = slice_index_or (seen_of d) good 0

-- the desk of a caller at the locks of a floor that has made no call and seen no board
pub record IsNewDesk (floor : List (LockId AuctionHistory) × LockId (List CashEntry)) (number : ℕ) (d : Desk) : Type 0 where
  pub ids : desk_ids d ≡ floor
  pub caller : desk_caller d ≡ number
  pub entries : desk_entries d ≡ replicate GOODS []
  pub steps : desk_steps d ≡ []
  pub calls : desk_calls d ≡ []
  pub cash : desk_cash d ≡ []
  pub boards : boards_of d ≡ replicate GOODS []
  pub seen : seen_of d ≡ replicate GOODS 0
