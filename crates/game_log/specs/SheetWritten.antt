-- The effect on a sink of writing a piece that is first built in memory, the scores of a game among them.
use Rattle.std.specs.Prelude.{◌≡◌, ℕ, List, Result, Ok, Err}
use Rattle.game_log.specs.Prelude.{SinkState, GameFile, ClosedGame, Scored, sheet_part, TookWhole, TookPart}
use Rattle.game_log.specs.ScoredGames.{IsSheetOf}
use Rattle.game_log.specs.declared.fault.LogWriteFault.{LogWriteFault}
use Rattle.game_log.specs.declared.fault.LogWriteFault.TheVariants.{Failed, Memory}

-- The whole piece was taken and no fault was counted; or a fault was counted and the first bytes were taken, but not all; or memory
-- was refused, and the sink is as it was.
abbrev pub WritesMade : List ℕ → SinkState → SinkState → Result (Unit {0}) LogWriteFault → Type 0
WritesMade piece sink sink' (Ok done) = TookWhole sink sink' piece
WritesMade piece sink sink' (Err Failed) = TookPart sink sink' piece
WritesMade piece sink sink' (Err Memory) = sink' ≡ sink

-- the second part of the log was written with some sheet of the game, or not all of it, or memory was refused for it
abbrev pub WritesSheet : GameFile → ClosedGame → SinkState → SinkState → Result (Unit {0}) LogWriteFault → Type 0
WritesSheet game closed sink sink' (Ok done) = (sheet : List Scored) × IsSheetOf game closed sheet × TookWhole sink sink' (sheet_part sheet)
WritesSheet game closed sink sink' (Err Failed) = (sheet : List Scored) × IsSheetOf game closed sheet × TookPart sink sink' (sheet_part sheet)
WritesSheet game closed sink sink' (Err Memory) = sink' ≡ sink
