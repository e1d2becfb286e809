-- What the inner calls of a game that is played line by line keep and return.
use Rattle.std.specs.Prelude.{◌≡◌, ℕ, ◌+◌, false, List, [], ◌++◌, length, Result, MatchResult, Ok, Err}
use Rattle.script_run.specs.Prelude.{parts_of, has_end, FilesState, SinkState, known_then, GameFile, TookWhole, TookPart}
use Rattle.script_run.specs.declared.game.lines.GameLine.{GameLine}
use Rattle.script_run.specs.declared.game.run.GameRun.{GameRun}
use Rattle.script_run.specs.declared.game.stepping.Stepper.{Stepper}
use Rattle.script_run.specs.declared.fault.ScriptFault.{ScriptFault}
use Rattle.script_run.specs.declared.fault.ScriptFault.TheVariants as scripts
use Rattle.script_run.specs.declared.fault.StepFault.{StepFault}
use Rattle.script_run.specs.declared.fault.StepFault.TheVariants.{Line, TooLong, Unwritten, Memory}
use Rattle.script_run.specs.GameRuns.{HasRunGame}
use Rattle.script_run.specs.HeardScripts.{heard_from, heard_lines, AtEnd, BadAt, Whole, script_standing, standing_after}
use Rattle.script_run.specs.HeldLines.{IsHeld}
use Rattle.script_run.specs.OneThreadRun.{replies}
use Rattle.script_run.specs.SteppedGames.{Gave, StepsGame}

-- These bytes of the script were played, all lines in them are good, and a first part of the replies was written. The rest of them has no line
-- end, and whatever more comes is heard as it is behind that rest.
pub record IsStepping (game : GameFile) (given written : List ℕ) (stepper : Stepper) : Type 0 where
  pub lines : List GameLine
  pub rest : List ℕ
  pub ran : HasRunGame game lines written stepper.run
  pub held : IsHeld rest stepper.held
  pub number : stepper.number ≡ length lines + 1
  pub no_end : has_end rest ≡ false
  pub heard : (more : List ℕ) → heard_from [] (parts_of 10 (given ++ more)) ≡ heard_from lines (parts_of 10 (rest ++ more))

-- a line of these bytes is bad, whatever more comes, and the replies to the lines before it are written or still to be written
abbrev pub StopsAtLine : GameFile → List ℕ → List ℕ → Stepper → ScriptFault → Type 0
StopsAtLine game given written stepper (scripts.Line line reason) =
    (lines : List GameLine) × ((more : List ℕ) → heard_from [] (parts_of 10 (given ++ more)) ≡ (lines, Err (line, reason)))
    × (written ++ stepper.run.text.items ≡ replies game lines)
StopsAtLine game given written stepper fault = ⊥

-- whatever bytes were played before, these came next and were played, or a line in them is bad
abbrev pub HearsBytes : Stepper → List ℕ → Stepper → Result (Unit {0}) ScriptFault → Type 0
HearsBytes before bytes after result = (game : GameFile) (given written : List ℕ) → IsStepping game given written before →
    MatchResult result (λ _. IsStepping game (given ++ bytes) written after) (StopsAtLine game (given ++ bytes) written after)

-- the same fault of a line, and what the others would be
abbrev pub stopped_by : ScriptFault → StepFault
stopped_by (scripts.Line line reason) = Line line reason
stopped_by scripts.TooLong = TooLong
stopped_by scripts.Failed = Unwritten
stopped_by scripts.Memory = Memory

-- these bytes of the script were played, and all replies were written
pub record HasAnswered (game : GameFile) (given : List ℕ) (start : SinkState) (stepper : Stepper) (sink : SinkState) : Type 0 where
  pub written : List ℕ
  pub stepping : IsStepping game given written stepper
  pub all : written ≡ replies game stepping.lines
  pub took : TookWhole start sink written

-- A piece more was played and answered; or a line in it is bad, and the lines before it were answered; or a write failed.
abbrev pub Answered : GameFile → List ℕ → SinkState → Stepper → SinkState → Result (Unit {0}) StepFault → Type 0
Answered game given start stepper sink' (Ok done) = HasAnswered game given start stepper sink'
Answered game given start stepper sink' (Err (Line line reason)) =
    (lines : List GameLine) × (heard_from [] (parts_of 10 given) ≡ (lines, Err (line, reason))) × TookWhole start sink' (replies game lines)
Answered game given start stepper sink' (Err Unwritten) = TookPart start sink' (replies game (heard_from [] (parts_of 10 given)).0)
Answered game given start stepper sink' (Err fault) = ⊥

-- if all bytes before had been played and answered, then so were those of the piece, or the fault says what was not
abbrev pub AnswersPiece : Stepper → SinkState → List ℕ → Stepper → SinkState → Result (Unit {0}) StepFault → Type 0
AnswersPiece before sink piece after sink' result = (game : GameFile) (given : List ℕ) (start : SinkState) →
    HasAnswered game given start before sink → Answered game (given ++ piece) start after sink' result

-- the sink took some bytes more, or none
abbrev pub TookMore : SinkState → SinkState → Type 0
TookMore sink sink' = (more : List ℕ) × (sink'.taken ≡ known_then sink.taken more)

-- the run after these lines, if nothing stands behind the last one, or that the last line has no end
abbrev pub EndsScript : GameFile → List GameLine → List ℕ → List ℕ → Result GameRun StepFault → Type 0
EndsScript game lines rest written (Ok run) = (rest ≡ []) × HasRunGame game lines written run
EndsScript game lines rest written (Err (Line line reason)) = standing_after lines (Ok rest) false AtEnd ≡ BadAt line reason
EndsScript game lines rest written (Err fault) = ⊥

-- the run after all lines of a whole script, whose replies were written; or what ended the game before
abbrev pub HearsLines : GameFile → FilesState → FilesState → SinkState → SinkState → Result GameRun StepFault → Type 0
HearsLines game files files' sink sink' (Ok run) =
    (given : List ℕ) × Gave given AtEnd files files' × (script_standing given AtEnd ≡ Whole)
    × HasRunGame game (heard_lines given) (replies game (heard_lines given)) run × TookWhole sink sink' (replies game (heard_lines given))
HearsLines game files files' sink sink' (Err fault) = StepsGame game files files' sink sink' (Err fault)
