-- Which game scripts are played.
use Rattle.std.specs.Prelude.{ℕ, ◌==◌, ◌&&◌, Bool, true, false, nat_le, if◌then◌else◌, List, count_by, Result, Ok, Err}
use Rattle.std.specs.List.{list_any}
use Rattle.script_run.specs.Prelude.{TICKS, SESSION_LINES, Request, RequestFault}
use Rattle.line_protocol.specs.declared.asking.Request.TheVariants.{Quit}
use Rattle.script_run.specs.declared.fault.ScriptReason.{ScriptReason}
use Rattle.script_run.specs.declared.fault.ScriptReason.TheVariants.{Ended, TooMany}
use Rattle.script_run.specs.declared.game.lines.GameLine.{GameLine}
use Rattle.script_run.specs.declared.game.lines.GameLine.TheVariants.{Tick, Asks}
use Rattle.script_run.specs.ScriptLines.{BadLine, lines_of_text}
use Rattle.script_run.specs.GameLines.{game_line_of}

abbrev pub is_tick_line : GameLine → Bool
is_tick_line Tick = true
is_tick_line (Asks agent asked) = false

-- whether the line is the agent's
abbrev pub is_line_of : ℕ → GameLine → Bool
is_line_of agent Tick = false
is_line_of agent (Asks asking asked) = asking == agent

abbrev pub is_quit : Result Request RequestFault → Bool
is_quit (Ok Quit) = true
is_quit asked = false

-- whether the agent ends its session in the line
abbrev pub quits : ℕ → GameLine → Bool
quits agent Tick = false
quits agent (Asks asking asked) = (asking == agent) && is_quit asked

-- the number of ticks among the lines, and the number of the agent's lines
abbrev pub ticks_of : List GameLine → ℕ
ticks_of lines = count_by is_tick_line lines

abbrev pub count_of_agent : List GameLine → ℕ → ℕ
count_of_agent lines agent = count_by (is_line_of agent) lines

-- whether the agent has ended its session
abbrev pub has_quit : List GameLine → ℕ → Bool
has_quit lines agent = list_any (quits agent) lines

-- A line after others, unless its agent has ended its session, or there are too many ticks, or too many lines of its
-- agent.
abbrev pub limited_game_line : List GameLine → GameLine → Result GameLine ScriptReason
limited_game_line lines Tick = if nat_le TICKS (ticks_of lines) then Err TooMany else Ok Tick
limited_game_line lines (Asks agent asked) =
    if has_quit lines agent then Err Ended
    else if nat_le SESSION_LINES (count_of_agent lines agent) then Err TooMany
    else Ok (Asks agent asked)

-- what a line after others requests, or the first reason why it is bad
abbrev pub judged_game_line : List GameLine → Result GameLine ScriptReason → Result GameLine ScriptReason
judged_game_line lines (Err reason) = Err reason
judged_game_line lines (Ok line) = limited_game_line lines line

abbrev pub judge_game_line : List GameLine → List ℕ → Result GameLine ScriptReason
judge_game_line lines line = judged_game_line lines (game_line_of line)

-- the lines of a game script, the last line first, or the first bad line
abbrev pub game_script : List ℕ → Result (List GameLine) BadLine
game_script text = lines_of_text judge_game_line text
