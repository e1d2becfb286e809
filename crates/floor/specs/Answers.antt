-- What each call of a desk answers and adds.
use Rattle.std.specs.Prelude.{⊤, ◌≡◌, ℕ, ◌+◌, ◌<◌, ◌≤◌, List, [], ◌∷◌, ◌++◌, length, reverse, slice_set, Some, None}
use Rattle.floor.specs.Prelude.{AGENT_CALLS, CASH_READINGS, UPDATE_TICKS, Call, Bid, Update, Publish, Close, Points, Taken, Board, Entry, Setup, Legal, entry_of, refusal, part, CashEntry, Read, Cash, due_post}
use Rattle.tac_base.specs.declared.calls.Reply.{Reply}
use Rattle.floor.specs.declared.desk.Desk.{Desk}
use Rattle.floor.specs.declared.outcomes.Outcome.{Outcome}
use Rattle.floor.specs.declared.outcomes.Outcome.TheVariants.{At, Spent}
use Rattle.floor.specs.declared.outcomes.CashOutcome.{CashOutcome}
use Rattle.floor.specs.declared.outcomes.CashOutcome.TheVariants as cash_outcomes
use Rattle.floor.specs.Keeping.{AddsCash, count_readings}
use Rattle.floor.specs.Steps.{Step, CallMade}
use Rattle.floor.specs.Desks.{desk_ids, desk_caller, setup_at, desk_entries, entries_at, desk_steps, desk_calls, desk_cash, boards_of, boards_at, seen_of, seen_at}

-- the desk is of the same locks, and of the same caller
abbrev pub IsSameDesk : Desk → Desk → Type 0
IsSameDesk before after = (desk_ids after ≡ desk_ids before) × (desk_caller after ≡ desk_caller before)

-- The entry of a desk's call at a good, at a position: it has the desk's caller, this call and this reply, and is the one that the rules
-- give after the entries before it, among which the desk's own are those that it had made.
pub record IsEntryOfCall (before : Desk) (good : ℕ) (asked : Call) (position : ℕ) (answered : Reply) (entry : Entry) : Type 0 where
  pub caller : entry.caller ≡ desk_caller before
  pub call : entry.call ≡ asked
  pub reply : entry.reply ≡ answered
  -- what is fixed of the auction, and its entries before this one
  pub setup : Setup
  pub setup_is : setup_at before good ≡ Some setup
  pub earlier : List Entry
  pub count : length earlier ≡ position
  pub own : part (λ e. e.caller) earlier (desk_caller before) ≡ entries_at before good
  pub legal : Legal setup (earlier ++ entry ∷ [])
  pub ruled : entry ≡ entry_of setup (reverse earlier) (desk_caller before) asked

-- What a call changes of a desk: the desk has one entry more at this good, and the same at the others; the call is appended to its steps
-- and to its list of calls; the post that is due to the entry was made; and the desk, which had seen no more than the entries before the
-- position, has now seen the one at it.
pub record AddsCall (before after : Desk) (good : ℕ) (asked : Call) (position : ℕ) (entry : Entry) : Type 0 where
  pub entries : desk_entries after ≡ slice_set (desk_entries before) good (entries_at before good ++ (position, entry) ∷ [])
  pub steps : desk_steps after ≡ desk_steps before ++ CallMade good asked ∷ []
  pub calls : desk_calls after ≡ desk_calls before ++ (good, asked) ∷ []
  pub posts : AddsCash (desk_cash before) (desk_cash after) (due_post good position entry)
  pub seen_before : seen_at before good ≤ position
  pub seen : seen_of after ≡ slice_set (seen_of before) good (position + 1)

-- A call at a good was answered at a position: the desk has the call's entry, and the boards that it saw, its locks and its caller
-- stayed.
pub record IsCallAnswered (before after : Desk) (good : ℕ) (asked : Call) (position : ℕ) (answered : Reply) : Type 0 where
  pub entry : Entry
  pub made : IsEntryOfCall before good asked position answered entry
  pub adds : AddsCall before after good asked position entry
  pub boards : boards_of after ≡ boards_of before
  pub same : IsSameDesk before after

-- an agent's call at a good is spent, and changes nothing, exactly if the desk made all its calls there before
abbrev pub IsOutcome : Desk → Desk → ℕ → Call → Outcome → Type 0
IsOutcome before after good asked Spent = (length (entries_at before good) ≡ AGENT_CALLS) × (after ≡ before)
IsOutcome before after good asked (At position reply) = (length (entries_at before good) < AGENT_CALLS) × IsCallAnswered before after good asked position reply

-- a bid that is not spent is taken, if no refusal of the rules applies to it after the entries before it
abbrev pub TakesLawfulBid : Desk → Desk → ℕ → Points → Outcome → Type 0
TakesLawfulBid before after good points Spent = ⊤
TakesLawfulBid before after good points (At position reply) = (told : IsCallAnswered before after good (Bid points) position reply)
    × (refusal told.made.setup.rules (reverse told.made.earlier) (desk_caller before) (Bid points) ≡ None → (bought : ℕ) × (sold : ℕ) × (reply ≡ Taken bought sold))

-- an agent's cash was read: the desk has that entry more in the cash history, and nothing else is changed
pub record IsCashRead (before after : Desk) (position : ℕ) (entry : CashEntry) : Type 0 where
  pub cash : desk_cash after ≡ desk_cash before ++ (position, entry) ∷ []
  pub entries : desk_entries after ≡ desk_entries before
  pub steps : desk_steps after ≡ desk_steps before
  pub calls : desk_calls after ≡ desk_calls before
  pub seen : seen_of after ≡ seen_of before
  pub boards : boards_of after ≡ boards_of before
  pub same : IsSameDesk before after

-- a reading is spent, and changes nothing, exactly if the desk made all its readings before
abbrev pub IsCashOutcome : Desk → Desk → CashOutcome → Type 0
IsCashOutcome before after cash_outcomes.Spent = (count_readings (desk_cash before) ≡ CASH_READINGS) × (after ≡ before)
IsCashOutcome before after (cash_outcomes.At position dollars) = (count_readings (desk_cash before) < CASH_READINGS)
    × IsCashRead before after position (record { caller = desk_caller before; call = Read (desk_caller before); reply = Cash dollars })

-- a board of a good was seen, which is not shorter than what the desk had seen there, and nothing else is changed
pub record IsSeen (before after : Desk) (good : ℕ) (board : Board) : Type 0 where
  pub boards : boards_of after ≡ slice_set (boards_of before) good (boards_at before good ++ (board.count, board) ∷ [])
  pub seen_before : seen_at before good ≤ board.count
  pub seen : seen_of after ≡ slice_set (seen_of before) good board.count
  pub entries : desk_entries after ≡ desk_entries before
  pub steps : desk_steps after ≡ desk_steps before
  pub calls : desk_calls after ≡ desk_calls before
  pub cash : desk_cash after ≡ desk_cash before
  pub same : IsSameDesk before after

-- a step was taken that is no call, and nothing else is changed
pub record IsStepTaken (before after : Desk) (step : Step) : Type 0 where
  pub steps : desk_steps after ≡ desk_steps before ++ step ∷ []
  pub calls : desk_calls after ≡ desk_calls before
  pub entries : desk_entries after ≡ desk_entries before
  pub cash : desk_cash after ≡ desk_cash before
  pub seen : seen_of after ≡ seen_of before
  pub boards : boards_of after ≡ boards_of before
  pub same : IsSameDesk before after

-- the calls of the clock: an update of one of the ticks 1..53, a publication and a closing
abbrev pub IsClockCall : Call → Type 0
IsClockCall (Update tick draw) = tick ≤ UPDATE_TICKS
IsClockCall Publish = ⊤
IsClockCall Close = ⊤
IsClockCall call = ⊥
