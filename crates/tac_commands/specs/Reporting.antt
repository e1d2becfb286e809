-- What is written for an outcome, and the exit code.
use Rattle.std.specs.Prelude.{◌≡◌, ℕ, ◌==◌, MatchBool}
use Rattle.tac_commands.specs.Prelude.{SinkState, TookWhole, TookPart}
use Rattle.tac_commands.specs.declared.refusals.Refusal.TheVariants.{ReadFault}
use Rattle.tac_commands.specs.Outcomes.{Outcome, Unread, exit_of, refusal_end}

-- A write failed: the first bytes of the due text were written, but not all. If the script was broken off, the replies were written whole,
-- so it was a write of the line after them.
abbrev pub IsCutShort : Outcome → SinkState → SinkState → Type 0
IsCutShort (Unread replies) sink sink' = (between : SinkState) × TookWhole sink between replies × TookPart between sink' (refusal_end ReadFault).1
IsCutShort outcome sink sink' = TookPart sink sink' (exit_of outcome).1

-- The due text was written and the code is the due one; or a write failed, and the code is 4.
abbrev pub Reports : Outcome → SinkState → SinkState → ℕ → Type 0
Reports outcome sink sink' code = MatchBool (code == 4)
    (IsCutShort outcome sink sink')
    ((code ≡ (exit_of outcome).0) × TookWhole sink sink' (exit_of outcome).1)

-- one of these outcomes came: its text was written and its code given, or a write failed and the code is 4
abbrev pub ReportsOne : (Outcome → Type 0) → SinkState → SinkState → ℕ → Type 0
ReportsOne allows sink sink' code = (outcome : Outcome) × allows outcome × Reports outcome sink sink' code
