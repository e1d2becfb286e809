-- What the calls that make a table promise about the pairs that they read.
use Rattle.std.specs.Prelude.{◌≡◌, ℕ, List, [], ◌∷◌, ◌++◌, length}
use Rattle.tac_commands.specs.Prelude.{FilesState, GameFile, LoggedGame, IsSound, Kept, AreStandingsOf}
use Rattle.tac_commands.specs.declared.file_kinds.FileKind.TheVariants.{Game, Log}
use Rattle.tac_commands.specs.declared.table_command.TableFault.{TableFault}
use Rattle.tac_commands.specs.declared.table_command.TableFault.TheVariants as faults
use Rattle.tac_commands.specs.Allowed.{table_steps}
use Rattle.tac_commands.specs.Files.{Content, IsFileRead}
use Rattle.tac_commands.specs.FlawTexts.{unsound_text}
use Rattle.tac_commands.specs.Outcomes.{Outcome, Unsound, Refused}
use Rattle.tac_commands.specs.Runs.{Runs}

-- the outcome of a table that is not written
abbrev pub outcome_of : TableFault → Outcome
outcome_of (faults.Refused refusal) = Refused refusal
outcome_of (faults.Unsound pair) = Unsound (unsound_text pair)

-- the standings have one more game
abbrev pub HasAdded : Kept → Kept → GameFile → LoggedGame → Type 0
HasAdded standings after game log = (played : List (GameFile × LoggedGame)) → AreStandingsOf standings played → AreStandingsOf after (played ++ (game, log) ∷ [])

-- a pair was read, its log is sound, and the standings have its game
pub record IsAdded (content : Content) (game_name log_name : List ℕ) (standings after : Kept) : Type 0 where
  pub game : GameFile
  pub log : LoggedGame
  pub is_game : IsFileRead content Game game_name game
  pub is_log : IsFileRead content Log log_name log
  pub sound : IsSound game log
  pub added : HasAdded standings after game log

-- a table ends so at this pair, whichever games were played before and whatever comes after it
abbrev pub EndsAtPair : FilesState → FilesState → ℕ → List ℕ → List ℕ → TableFault → Type 0
EndsAtPair files files' pair game_name log_name fault =
    (played : List (GameFile × LoggedGame)) (later : List (List ℕ × List ℕ)) → length played ≡ pair →
    Runs (table_steps played ((game_name, log_name) ∷ later)) files files' (outcome_of fault)

-- The standings are those of this many games of the first pairs, and a table continues from here: the outcome of the remaining pairs is that
-- of all.
pub record TableGoesOn (all left : List (List ℕ × List ℕ)) (count : ℕ) (files files' : FilesState) (standings : Kept) : Type 0 where
  pub played : List (GameFile × LoggedGame)
  pub count_is : length played ≡ count
  pub stands : AreStandingsOf standings played
  pub goes_on : (last : FilesState) (outcome : Outcome) → Runs (table_steps played left) files' last outcome → Runs (table_steps [] all) files last outcome
