-- A game that was played line by line to its end, and then written.
use Rattle.std.proofs.Common.{◌≡◌, ℕ, List, ◌++◌, take, sym, ap, ◌∙◌, subst, inl, inr, append_assoc, Result, Ok, Err, ◌⊎◌}
use Rattle.script_run.specs.{FilesState, SinkState, GameFile, ClosedGame, Scored, play_part, sheet_part, IsSheetOf, IsShowable, TookPart, Play, first_out, IsGoodScript, HasRunGame, heard_lines, AtEnd, Whole, replies, IsPlayedToEnd, WritesPlayed, first_text, IsFirstOut, IsPlayOut, StepsGame, TellsGame, HearsLines, TookMore, stopped_by}
use Rattle.game_log.proofs.Writing.{then_some, then_whole}
use Rattle.script_run.specs.declared.fault.ScriptFault.{ScriptFault}
use Rattle.script_run.specs.declared.fault.ScriptFault.TheVariants as scripts
use Rattle.script_run.specs.declared.fault.StepFault.{StepFault}
use Rattle.script_run.specs.declared.fault.StepFault.TheVariants.{Unwritten, Memory}
use Rattle.script_run.specs.declared.game.lines.GameLine.{GameLine}
use Rattle.script_run.specs.declared.game.run.GameRun.{GameRun}
use Rattle.script_run.specs.declared.game.playing.FinishedGame.{FinishedGame}
use Rattle.script_run.proofs.SteppedGames.{prompt_now, tells_as}
use Rattle.script_run.proofs.StoodScripts.{whole_is}

module _ (game : GameFile) (files files' : FilesState) (start sink sink' : SinkState) (run : GameRun) (played : FinishedGame) (heard : HearsLines game files files' start sink (Ok run))
    (close : (lines : List GameLine) (written : List ℕ) → HasRunGame game lines written run → IsPlayedToEnd game lines written played) where
  abbrev lines : List GameLine
  lines = heard_lines heard.0

  abbrev answered : List ℕ
  answered = replies game (heard_lines heard.0)

  end : IsPlayedToEnd game lines answered played
  end = close lines answered heard.3

  good : IsGoodScript heard.0 lines
  good = let whole = whole_is heard.0 AtEnd heard.2 in record { within = whole.within; good = whole.good }

  first_due : answered ++ first_text played ≡ first_out game lines
  first_due =
      sym (append_assoc answered played.replies.items (play_part Play played.closed))
      ∙ ((λ i. end.replies i ++ play_part Play played.closed) ∙ ap (λ (closed : ClosedGame). answered ++ play_part Play closed) end.closed)

  is_first : IsFirstOut game heard.0 (answered ++ first_text played)
  is_first = record { lines = lines; good = good; due = first_due }

  is_play : (sheet : List Scored) → IsSheetOf game played.closed sheet → IsPlayOut game heard.0 (answered ++ (first_text played ++ sheet_part sheet))
  is_play sheet scores = record {
    lines = lines;
    good = good;
    sheet = sheet;
    scores = subst (λ (closed : ClosedGame). IsSheetOf game closed sheet) end.closed scores;
    due = sym (append_assoc answered (first_text played) (sheet_part sheet)) ∙ ap (λ (t : List ℕ). t ++ sheet_part sheet) first_due;
    shown = subst (IsShowable game Play) end.closed end.shown;
  }

  ends : (result : Result (Unit {0}) StepFault) → TellsGame game heard.0 start sink' result → TookMore sink sink' → StepsGame game files files' start sink' result
  ends result tells more = inr (heard.0, AtEnd, heard.1, tells_as game heard.0 AtEnd Whole start sink' result heard.2 tells, prompt_now game heard.0 start sink sink' heard.4 more)

  -- all was written
  pub ends_whole : WritesPlayed game played sink sink' (Ok tt) → StepsGame game files files' start sink' (Ok tt)
  ends_whole wrote =
      let text = first_text played ++ sheet_part wrote.0 in
      ends (Ok tt) (answered ++ text, is_play wrote.0 wrote.1, then_whole answered text start sink sink' heard.4 wrote.2) (text, wrote.2.0)

  part_more : (text : List ℕ) → TookPart sink sink' text → TookMore sink sink'
  part_more text part = (take part.0.count text, part.0.taken)

  ends_part : TookPart sink sink' (first_text played) ⊎ ((sheet : List Scored) × IsSheetOf game played.closed sheet × TookPart sink sink' (first_text played ++ sheet_part sheet)) →
      StepsGame game files files' start sink' (Err Unwritten)
  ends_part (inl part) =
      ends (Err Unwritten) (answered ++ first_text played, inl is_first, then_some answered (first_text played) start sink sink' heard.4 part) (part_more (first_text played) part)
  ends_part (inr (sheet, scores, part)) =
      let text = first_text played ++ sheet_part sheet in
      ends (Err Unwritten) (answered ++ text, inr (is_play sheet scores), then_some answered text start sink sink' heard.4 part) (part_more text part)

  -- a write failed, or memory was refused for the sheet
  pub ends_fault : (fault : ScriptFault) → WritesPlayed game played sink sink' (Err fault) → StepsGame game files files' start sink' (Err (stopped_by fault))
  ends_fault (scripts.Line line reason) wrote = absurd wrote
  ends_fault scripts.TooLong wrote = absurd wrote
  ends_fault scripts.Failed wrote = ends_part wrote
  ends_fault scripts.Memory wrote =
      ends (Err Memory) (answered ++ first_text played, is_first, then_whole answered (first_text played) start sink sink' heard.4 wrote) (first_text played, wrote.0)
