-- A game that is played line by line, and then written.
use Rattle.std.proofs.Common.{◌≡◌, ℕ, List, [], ◌∷◌, ◌++◌, sym, ap, ◌∙◌, subst, inl, inr, Ok, Err}
use Rattle.script_run.specs.{SinkState, parts_of, GameFile, ClosedGame, Scored, play_part, sheet_part, IsSheetOf, IsShowable, TookWhole, Play, judge_game_line, HasRunGame, PlaysGameLine, PlaysLines, closed_game, first_out, play_out, IsGoodScript, IsPlayOut, IsFirstOut, PlaysScript, whole_game, count_in, HasPlayed, PlaysToEnd, WritesPlayed, first_text, PlaysQuietly}
use Rattle.game_log.specs.SheetWritten.{WritesSheet}
use Rattle.game_log.specs.declared.fault.LogWriteFault.TheVariants as log
use Rattle.game_log.proofs.Writing.{then_some}
use Rattle.script_run.specs.declared.game.lines.GameLine.{GameLine}
use Rattle.script_run.specs.declared.game.run.GameRun.{GameRun}
use Rattle.script_run.specs.declared.fault.ScriptFault.{ScriptFault}
use Rattle.script_run.specs.declared.fault.ScriptFault.TheVariants.{Line, TooLong, Failed, Memory}
use Rattle.script_run.specs.declared.game.play_count.PlayCount.{PlayCount}
use Rattle.script_run.specs.declared.game.playing.FinishedGame.{FinishedGame}
use Rattle.script_run.proofs.ClosedCounts.{counted, count_closed}
use Rattle.script_run.proofs.ScriptReading.{HasRead, stops}

-- some lines of a script were played
pub record IsPlaying (game : GameFile) (script rest : List ℕ) (number : ℕ) (run : GameRun) : Type 0 where
  pub lines : List GameLine
  pub ran : HasRunGame game lines [] run
  pub read : HasRead judge_game_line lines script rest number

-- what a bad line makes of the whole script
pub fails : (game : GameFile) (script rest line after : List ℕ) (number : ℕ) (run run' : GameRun) (fault : ScriptFault) (playing : IsPlaying game script rest number run) →
    parts_of 10 rest ≡ line ∷ parts_of 10 after → PlaysGameLine game playing.lines [] (record { number = number; bytes = line }) run' (Err fault) → PlaysLines game script (Err fault)
fails game script rest line after number run run' (Line at reason) playing e stepped =
    stops judge_game_line playing.lines script rest line after number stepped.0 playing.read e stepped.3
    ∙ (λ i. Err (sym stepped.1 i, sym stepped.2 i))
fails game script rest line after number run run' TooLong playing e stepped = stepped
fails game script rest line after number run run' Failed playing e stepped = stepped
fails game script rest line after number run run' Memory playing e stepped = tt

-- ---- the text of a game that was played

pub first_due : (game : GameFile) (lines : List GameLine) (played : FinishedGame) → HasPlayed game lines played → first_text played ≡ first_out game lines
first_due game lines played has = λ i. has.replies i ++ play_part Play (has.closed i)

pub play_due : (game : GameFile) (lines : List GameLine) (played : FinishedGame) (sheet : List Scored) → HasPlayed game lines played → first_text played ++ sheet_part sheet ≡ play_out game lines sheet
play_due game lines played sheet has = ap (λ (t : List ℕ). t ++ sheet_part sheet) (first_due game lines played has)

pub sheet_due : (game : GameFile) (lines : List GameLine) (played : FinishedGame) (sheet : List Scored) → HasPlayed game lines played → IsSheetOf game played.closed sheet → IsSheetOf game (closed_game game lines) sheet
sheet_due game lines played sheet has scores = subst (λ (c : ClosedGame). IsSheetOf game c sheet) has.closed scores

pub count_due : (game : GameFile) (lines : List GameLine) (played : FinishedGame) → HasPlayed game lines played → counted played.closed ≡ count_in (whole_game game lines)
count_due game lines played has = ap counted has.closed ∙ count_closed game (whole_game game lines)

pub is_first_out : (game : GameFile) (script : List ℕ) (lines : List GameLine) (played : FinishedGame) → IsGoodScript script lines → HasPlayed game lines played → IsFirstOut game script (first_text played)
is_first_out game script lines played good has = record { lines = lines; good = good; due = first_due game lines played has }

pub is_play_out : (game : GameFile) (script : List ℕ) (lines : List GameLine) (played : FinishedGame) (sheet : List Scored) → IsGoodScript script lines → HasPlayed game lines played →
    IsSheetOf game played.closed sheet → IsPlayOut game script (first_text played ++ sheet_part sheet)
is_play_out game script lines played sheet good has scores = record {
  lines = lines;
  good = good;
  sheet = sheet;
  scores = sheet_due game lines played sheet has scores;
  due = play_due game lines played sheet has;
  shown = subst (IsShowable game Play) has.closed has.shown;
}

-- the sheet was not written whole, after the first part
pub fails_after : (game : GameFile) (played : FinishedGame) (s0 s1 s2 : SinkState) → TookWhole s0 s1 (first_text played) → WritesSheet game played.closed s1 s2 (Err log.Failed) →
    WritesPlayed game played s0 s2 (Err Failed)
fails_after game played s0 s1 s2 first failed = inr (failed.0, failed.1, then_some (first_text played) (sheet_part failed.0) s0 s1 s2 first failed.2)

-- ---- what was answered and written of a script

pub plays_whole : (game : GameFile) (script : List ℕ) (played : FinishedGame) (count : PlayCount) (sink sink' : SinkState) →
    PlaysToEnd game script (Ok played) → WritesPlayed game played sink sink' (Ok tt) → count ≡ counted played.closed → PlaysScript game script sink sink' (Ok count)
plays_whole game script played count sink sink' ended wrote is = (
  first_text played ++ sheet_part wrote.0,
  is_play_out game script ended.0 played wrote.0 ended.1 ended.2 wrote.1,
  record { lines = ended.0; good = ended.1; is = is ∙ count_due game ended.0 played ended.2 },
  wrote.2,
)

pub plays_partly : (game : GameFile) (script : List ℕ) (played : FinishedGame) (fault : ScriptFault) (sink sink' : SinkState) →
    PlaysToEnd game script (Ok played) → WritesPlayed game played sink sink' (Err fault) → PlaysScript game script sink sink' (Err fault)
plays_partly game script played (Line line reason) sink sink' ended wrote = absurd wrote
plays_partly game script played TooLong sink sink' ended wrote = absurd wrote
plays_partly game script played Failed sink sink' ended (inl first) = (first_text played, inl (is_first_out game script ended.0 played ended.1 ended.2), first)
plays_partly game script played Failed sink sink' ended (inr (sheet, scores, some)) =
    (first_text played ++ sheet_part sheet, inr (is_play_out game script ended.0 played sheet ended.1 ended.2 scores), some)
plays_partly game script played Memory sink sink' ended wrote = inr (first_text played, is_first_out game script ended.0 played ended.1 ended.2, wrote)

-- ---- the same without writing

pub sums_up : (game : GameFile) (script : List ℕ) (played : FinishedGame) (count : PlayCount) (sheet : List Scored) → PlaysToEnd game script (Ok played) → count ≡ counted played.closed →
    IsSheetOf game played.closed sheet → PlaysQuietly game script (Ok (count, sheet))
sums_up game script played count sheet ended is scores = record {
  lines = ended.0;
  good = ended.1;
  is = is ∙ count_due game ended.0 played ended.2;
  scores = sheet_due game ended.0 played sheet ended.2 scores;
}
