-- The effect on a sink of writing a piece of a text.
use Rattle.std.specs.Prelude.{ℕ, List, Result, MatchResult}
use Rattle.tac_io.specs.States.{SinkState}
use Rattle.tac_io.specs.declared.failed.Failed.{Failed}
use Rattle.tac_io.specs.Taken.{TookWhole, TookPart}

-- The whole piece was taken and no write failed; or a write failed, the last one, and the first bytes were taken, but not all.
abbrev pub WritesPiece : List ℕ → SinkState → SinkState → Result (Unit {0}) Failed → Type 0
WritesPiece piece sink sink' result = MatchResult result (λ _. TookWhole sink sink' piece) (λ _. TookPart sink sink' piece)
