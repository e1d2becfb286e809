-- What a turn does with the agent's desk.
use Rattle.std.specs.Prelude.{⊤, ◌≡◌, ℕ, ◌<◌, ◌≤◌, [], ◌∷◌, ◌++◌, length, Some}
use Rattle.agent_gate.specs.Prelude.{AGENT_CALLS, CASH_READINGS, GOODS, Call, Said, Desk, Outcome, CashOutcome, desk_caller, entries_at, desk_cash, boards_at, seen_at, count_readings}
use Rattle.line_protocol.specs.declared.saying.Said.TheVariants as said
use Rattle.floor.specs.declared.outcomes.Outcome.TheVariants as outcomes
use Rattle.floor.specs.declared.outcomes.CashOutcome.TheVariants as cash_outcomes
use Rattle.agent_gate.specs.Items.{Item}
use Rattle.agent_gate.specs.Turns.{Turn, Called, CallDenied, CashRead, CashDenied, Quoted, Refused, Skipped, Quit, asked_call, item_of, said_of, made_at, cash_by, boards_shown, shown_length}

-- the statement about a call at a good
abbrev pub said_of_outcome : Outcome → Said
said_of_outcome (outcomes.At position reply) = said.At position reply
said_of_outcome outcomes.Spent = said.Spent

-- the statement about a reading of the agent's cash
abbrev pub said_of_reading : CashOutcome → Said
said_of_reading (cash_outcomes.At position dollars) = said.Cash position dollars
said_of_reading cash_outcomes.Spent = said.Spent

-- what a turn may be, by what the desk did and saw before it
abbrev pub IsDueTurn : Desk → Turn → Type 0
IsDueTurn before (Called request good position entry posted) =
    (asked_call request ≡ Some (good, entry.call)) × (good < GOODS) × (length (entries_at before good) < AGENT_CALLS) × (seen_at before good ≤ position)
IsDueTurn before (CallDenied request good) =
    ((call : Call) × (asked_call request ≡ Some (good, call))) × (good < GOODS) × (length (entries_at before good) ≡ AGENT_CALLS)
IsDueTurn before (CashRead position dollars) = count_readings (desk_cash before) < CASH_READINGS
IsDueTurn before CashDenied = count_readings (desk_cash before) ≡ CASH_READINGS
IsDueTurn before (Quoted good board) = (good < GOODS) × (seen_at before good ≤ board.count)
IsDueTurn before (Refused fault) = ⊤
IsDueTurn before Skipped = ⊤
IsDueTurn before Quit = ⊤

-- a turn was due, and the desk has what the turn left besides what it had, and nothing else
pub record IsMade (turn : Turn) (before after : Desk) : Type 0 where
  pub due : IsDueTurn before turn
  pub entries : (good : ℕ) → good < GOODS → entries_at after good ≡ entries_at before good ++ made_at good (turn ∷ [])
  pub cash : desk_cash after ≡ desk_cash before ++ cash_by (desk_caller before) turn
  pub boards : (good : ℕ) → good < GOODS → boards_at after good ≡ boards_at before good ++ boards_shown good (turn ∷ [])
  pub seen : (good : ℕ) → good < GOODS → (seen_at before good ≤ seen_at after good) × (shown_length good turn ≤ seen_at after good)

-- the item was answered so, and the desk made the turn
pub record TakesTurn (Asked : Item → Type 0) (before after : Desk) (answer : Said) : Type 0 where
  pub turn : Turn
  pub asked : Asked (item_of turn)
  pub said : said_of turn ≡ answer
  pub made : IsMade turn before after
