-- How a command ends that ran a script.
use Rattle.std.proofs.Common.{◌≡◌, ℕ, List, [], ◌∷◌, refl, inl, inr, ◌⊎◌, Result, Ok, Err}
use Rattle.tac_commands.specs.{IsFile, FilesState, SinkState, known_then, GameFile, ScriptFault, PlayCount, TookWhole, TookPart, GameLine, closed_game, IsFirstOut, IsPlayOut, PlaysScript, game_script, IsLawfulGame, replies, batch_steps, play_steps, Hotel, Done, Stopped, log_of_game, EndsInSoundLog, EndsBatch, EndsSteps, script_end}
use Rattle.game_text.specs.declared.fault.GameFault.TheVariants as faults
use Rattle.script_run.specs.declared.fault.ScriptFault.TheVariants.{Line, TooLong, Failed, Memory}
use Rattle.line_protocol.specs.Heads.{Play}
use Rattle.script_run.specs.HotelOuts.{IsHotelOut, RunsScript}
use Rattle.tac_commands.specs.declared.file_kinds.FileKind.TheVariants.{HotelScript, GameScript}
use Rattle.tac_commands.specs.declared.refusals.Refusal.TheVariants as refusals
use Rattle.tac_commands.specs.declared.ends.End.TheVariants as ends
use Rattle.tac_commands.specs.Runs.{Runs}
use Rattle.tac_commands.proofs.LongFiles.{long_file, good_hotel, bad_hotel, good_script, bad_script}
use Rattle.tac_commands.proofs.OneThreadCash.{cash_of_script}
use Rattle.tac_commands.proofs.SoundLogs.{played_soundly}

module _ (files files' : FilesState) (name bytes : List ℕ) (sink sink' : SinkState) (is : IsFile files.content name bytes) (selected : files'.names ≡ known_then files.names (name ∷ []))
    (quiet : files'.faults ≡ files.faults) where
  -- the script of a hotel was run with this text
  hotel_run : (text : List ℕ) → IsHotelOut bytes text → Runs (batch_steps (Hotel name)) files files' (Done text)
  hotel_run text out = inl (out.lines, (bytes, is, good_hotel bytes out.lines out.within out.good), (out.due, (selected, quiet)))

  pub hotel_ran : (result : Result (Unit {0}) ScriptFault) → RunsScript bytes sink sink' result → EndsBatch (Hotel name) files files' sink sink' (script_end result)
  hotel_ran (Ok done) ran = inl (ran.0, hotel_run ran.0 ran.1, ran.2)
  hotel_ran (Err (Line line reason)) ran =
      inl (inr (refusals.TextLine line reason, refl, inr (inr (faults.Line line reason, refl, (bytes, is, bad_hotel bytes line reason ran.0.within ran.0.bad), quiet)), selected), ran.1)
  hotel_ran (Err TooLong) ran = inl (inr (refusals.TextTooLong, refl, inr (inr (faults.TooLong, refl, (bytes, is, long_file HotelScript bytes ran.0), quiet)), selected), ran.1)
  hotel_ran (Err Failed) ran = inl (ran.0, inl (hotel_run ran.0 ran.1), ran.2)
  hotel_ran (Err Memory) ran = inl (inr (refusals.Memory, refl, inr (inl (refl, quiet)), selected), ran)

  -- ---- a game

  module _ (game : GameFile) (law : (script : List ℕ) (lines : List GameLine) → game_script script ≡ Ok lines → IsLawfulGame game (closed_game game lines)) where
    play_run : (text : List ℕ) → IsPlayOut game bytes text → Runs (play_steps game name) files files' (Done text)
    play_run text out =
        inl (out.lines, (bytes, is, good_script bytes out.lines out.good.within out.good.good), (((out.sheet, out.scores, out.due, ends out), cash_of_script game out.lines), (selected, quiet)))
      where
        ends : (played : IsPlayOut game bytes text) → EndsInSoundLog game (log_of_game Play (closed_game game played.lines) played.sheet) (replies game played.lines) text
        ends played = played_soundly game played.lines played.sheet text (law bytes played.lines played.good.good) played.scores played.shown played.due

    first_run : (text : List ℕ) → IsFirstOut game bytes text → Runs (play_steps game name) files files' (Stopped text refusals.Memory)
    first_run text out = inl (out.lines, (bytes, is, good_script bytes out.lines out.good.within out.good.good), ((out.due, cash_of_script game out.lines), (selected, quiet)))

    -- a write failed
    failed : (text : List ℕ) → IsFirstOut game bytes text ⊎ IsPlayOut game bytes text → TookPart sink sink' text → EndsSteps (play_steps game name) files files' sink sink' ends.WriteFault
    failed text (inl first) some = inr (inl (text, refusals.Memory, first_run text first, some))
    failed text (inr whole) some = inl (text, inl (play_run text whole), some)

    no_memory : (sink' ≡ sink) ⊎ ((text : List ℕ) × IsFirstOut game bytes text × TookWhole sink sink' text) →
        EndsSteps (play_steps game name) files files' sink sink' (ends.Refused refusals.Memory)
    no_memory (inl same) = inl (inr (refusals.Memory, refl, inr (inl (refl, quiet)), selected), same)
    no_memory (inr first) = inr (inl (first.0, refusals.Memory, first_run first.0 first.1, (refl, first.2)))

    pub played : (result : Result PlayCount ScriptFault) → PlaysScript game bytes sink sink' result → EndsSteps (play_steps game name) files files' sink sink' (script_end result)
    played (Ok count) ran = inl (ran.0, play_run ran.0 ran.1, ran.3)
    played (Err (Line line reason)) ran =
        inl (inr (refusals.TextLine line reason, refl, inr (inr (faults.Line line reason, refl, (bytes, is, bad_script bytes line reason ran.0.within ran.0.bad), quiet)), selected), ran.1)
    played (Err TooLong) ran = inl (inr (refusals.TextTooLong, refl, inr (inr (faults.TooLong, refl, (bytes, is, long_file GameScript bytes ran.0), quiet)), selected), ran.1)
    played (Err Failed) ran = failed ran.0 ran.1 ran.2
    played (Err Memory) ran = no_memory ran
