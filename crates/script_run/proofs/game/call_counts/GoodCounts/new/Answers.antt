use Rattle.script_run.proofs.Tables.{no_count}
use Rattle.script_run.proofs.game.call_counts.GoodCounts.new.Goals as goal

pub returns : goal.returns
returns c good = no_count 28 good
