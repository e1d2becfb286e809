-- How many lines of a script there were, in all and of each caller.
use Rattle.std.specs.Prelude.{◌≡◌, ℕ, ◌≤◌, List, length, slice_index}
use Rattle.tac_base.specs.Goods.{clock}
use Rattle.script_run.specs.declared.hotel.lines.HotelLine.{HotelLine}
use Rattle.script_run.specs.declared.hotel.line_counts.LineCounts.{LineCounts}
use Rattle.script_run.specs.HotelScripts.{count_of_caller}

-- the counts are those of the lines
pub record AreLineCounts (lines : List HotelLine) (counts : LineCounts) : Type 0 where
  pub all : counts.all ≡ length lines
  pub each : (caller : ℕ) → caller ≤ clock → slice_index counts.of_caller caller ≡ count_of_caller lines caller
