-- Eight seats, and what is at them before and after the sessions.
use Rattle.std.specs.Prelude.{◌≡◌, ℕ, ◌<◌, List, [], ◌∷◌, ◌++◌, Option, Some, None, true, replicate, IfSome, option_map}
use Rattle.game_run.specs.Prelude.{AGENTS, GOODS, clock, GameFile, goes_on, last_of, Lines, Cause, Desk, desk_ids, desk_caller, desk_entries, desk_cash, IsSession, LinkState, Dialect}
use Rattle.trade_ledger.specs.declared.cash_calls.CashEntry.{CashEntry}
use Rattle.turn_lock.specs.Passes.{LockId}
use Rattle.auction_core.specs.Auctions.{AuctionHistory}
use Rattle.agent_gate.specs.Turning.{session_state}
use Rattle.game_run.specs.declared.sessions.Two.{Two}
use Rattle.game_run.specs.declared.sessions.AgentSeat.{AgentSeat}
use Rattle.game_run.specs.declared.sessions.PlayedSeat.{PlayedSeat}

-- ---- two, four and eight in order

abbrev pub two_of : {X : Type 0} → Two X → List X
two_of two = two.first ∷ two.second ∷ []

abbrev pub four_of : {X : Type 0} → Two (Two X) → List X
four_of four = two_of four.first ++ two_of four.second

abbrev pub eight_of : {X : Type 0} → Two (Two (Two X)) → List X
eight_of eight = four_of eight.first ++ four_of eight.second

-- it holds of both
pub record AreBoth {X : Type 0} (Holds : X → Type 0) (two : Two X) : Type 0 where
  pub one : Holds two.first
  pub other : Holds two.second

-- it holds of both, each with what is left of it
pub record BothOver {X Y : Type 0} (Holds : X → Y → Type 0) (two : Two X) (over : Two Y) : Type 0 where
  pub one : Holds two.first over.first
  pub other : Holds two.second over.second

-- ---- before the sessions

-- the locks of a floor: those of the auctions, in the order of goods, and that of the cash book
abbrev pub FloorIds : Type 0
FloorIds = List (LockId AuctionHistory) × LockId (List CashEntry)

-- an agent's desk of these locks that made no call, and lines that may be read on, if there are lines
pub record IsReadySeat {L : Type 0} (ids : FloorIds) (agent_seat : AgentSeat L) : Type 0 where
  pub own : desk_ids agent_seat.desk ≡ ids
  pub agent : desk_caller agent_seat.desk < AGENTS
  pub no_calls : (desk_entries agent_seat.desk ≡ replicate GOODS []) × (desk_cash agent_seat.desk ≡ [])
  pub more : IfSome agent_seat.lines (λ lines. goes_on (last_of lines) ≡ true)

-- the clock's desk of these locks that made no call
pub record IsReadyClock (ids : FloorIds) (desk : Desk) : Type 0 where
  pub own : desk_ids desk ≡ ids
  pub caller : desk_caller desk ≡ clock
  pub no_calls : (desk_entries desk ≡ replicate GOODS []) × (desk_cash desk ≡ [])

abbrev pub AreEightReady : {L : Type 0} → FloorIds → Two (Two (Two (AgentSeat L))) → Type 0
AreEightReady ids eight = AreBoth (AreBoth (AreBoth (IsReadySeat ids))) eight

-- ---- after the sessions

module _ {L : Type 0} (state : L → LinkState) (dialect : Dialect) (game : GameFile) where
  -- a session of these lines at this desk left the link and the desk, and ended so
  pub record IsServedBy (before : Desk) (lines : Lines L) (after : Desk) (link : L) (cause : Cause) : Type 0 where
    pub count : ℕ
    pub session : IsSession dialect game (session_state state lines before) (record { link = state link; desk = after; lines = count; cause = cause })

  -- a seat without lines was left as it was; a seat with lines had its session
  abbrev pub IsPlayedOut : Desk → Option (Lines L) → Desk → Option (L × Cause) → Type 0
  IsPlayedOut before None after None = after ≡ before
  IsPlayedOut before (Some lines) after (Some (link, cause)) = IsServedBy before lines after link cause
  IsPlayedOut before lines after end = ⊥

  abbrev pub IsPlayedSeat : AgentSeat L → PlayedSeat L → Type 0
  IsPlayedSeat agent_seat played = IsPlayedOut agent_seat.desk agent_seat.lines played.desk played.end

  abbrev pub AreEightPlayed : Two (Two (Two (AgentSeat L))) → Two (Two (Two (PlayedSeat L))) → Type 0
  AreEightPlayed agent_seats played = BothOver (BothOver (BothOver IsPlayedSeat)) agent_seats played

  -- seats that were handed over, after their sessions
  unfoldable pub AreTakenPlayed : Option (Two (Two (Two (AgentSeat L)))) → Two (Two (Two (PlayedSeat L))) → Type 0
  AreTakenPlayed agent_seats played = IfSome agent_seats (λ p. AreEightPlayed p played)

-- ---- how they are gathered

-- the link of a seat, and the end of its agent, if it had a session
abbrev pub played_link : {L : Type 0} → PlayedSeat L → Option L
played_link played = option_map (λ end. end.0) played.end

abbrev pub played_end : {L : Type 0} → PlayedSeat L → Option (ℕ × Cause)
played_end played = option_map (λ end. (desk_caller played.desk, end.1)) played.end
