-- How many lines of a game script there were, and which agents ended their sessions.
use Rattle.std.specs.Prelude.{◌≡◌, ℕ, ◌≤◌, false, List, slice_index, slice_index_or}
use Rattle.script_run.specs.declared.game.lines.GameLine.{GameLine}
use Rattle.script_run.specs.declared.game.counts.GameCounts.{GameCounts}
use Rattle.script_run.specs.GameScripts.{ticks_of, count_of_agent, has_quit}

-- the counts are those of the lines
pub record AreGameCounts (lines : List GameLine) (counts : GameCounts) : Type 0 where
  pub ticks : counts.ticks ≡ ticks_of lines
  pub each : (agent : ℕ) → agent ≤ 7 → slice_index counts.of_agent agent ≡ count_of_agent lines agent
  pub ended : (agent : ℕ) → agent ≤ 7 → slice_index_or counts.has_quit agent false ≡ has_quit lines agent
