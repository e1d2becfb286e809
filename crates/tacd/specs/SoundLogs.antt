-- The log that a service writes is sound.
use Rattle.std.specs.Prelude.{ℕ, List, []}
use Rattle.tacd.specs.Prelude.{GameFile, Scored, head_of}
use Rattle.tac_commands.specs.SoundTexts.{log_of_game, EndsInSoundLog}
use Rattle.tacd.specs.declared.answer.Played.{Played}

-- the text is the log of the game that was played, with this sheet, and nothing else; that log is sound, and in its ranges
abbrev pub IsSoundLog : GameFile → Played → List Scored → List ℕ → Type 0
IsSoundLog game played sheet text = EndsInSoundLog game (log_of_game (head_of played.head) played.closed sheet) [] text
