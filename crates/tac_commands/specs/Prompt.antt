-- A game that is played line by line replies promptly.
use Rattle.std.specs.Prelude.{◌≡◌, ℕ, ⊤, List, [], ◌∷◌, ◌++◌, Option, Some, Ok, IfSome}
use Rattle.tac_commands.specs.Prelude.{FilesState, SinkState, GameFile, game_of, IsPrompt}
use Rattle.tac_commands.specs.Causes.{IsQuiet}
use Rattle.tac_commands.specs.Commands.{BatchCommand, Step, Command, Batch}

-- The lines of the script of this name that came before the last read have their replies, if it is known how much was read and no call of
-- the files failed.
abbrev pub HearsPromptly : GameFile → List ℕ → FilesState → FilesState → SinkState → SinkState → Type 0
HearsPromptly game script files files' sink sink' = IfSome files.content (λ told.
    (given rest : List ℕ) → told script ≡ Some (given ++ rest) → files'.left ≡ Some rest → IsQuiet files.faults files'.faults → IsPrompt game given sink sink')

-- the same for the game of a file, once both files and no other were selected
abbrev pub StepsPromptly : List ℕ → List ℕ → FilesState → FilesState → SinkState → SinkState → Type 0
StepsPromptly name script files files' sink sink' = IfSome files.content (λ told.
    (bytes : List ℕ) (game : GameFile) → told name ≡ Some bytes → game_of bytes ≡ Ok game → files'.names ≡ Some (name ∷ script ∷ []) → HearsPromptly game script files files' sink sink')

-- the same for a command; no other command plays line by line
abbrev pub IsPromptBatch : BatchCommand → FilesState → FilesState → SinkState → SinkState → Type 0
IsPromptBatch (Step name script) files files' sink sink' = StepsPromptly name script files files' sink sink'
IsPromptBatch command files files' sink sink' = ⊤

abbrev pub IsPromptCommand : Option Command → FilesState → FilesState → SinkState → SinkState → Type 0
IsPromptCommand (Some (Batch command)) files files' sink sink' = IsPromptBatch command files files' sink sink'
IsPromptCommand command files files' sink sink' = ⊤
