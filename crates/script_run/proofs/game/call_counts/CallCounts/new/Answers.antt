use Rattle.script_run.proofs.Tables.{no_counts}
use Rattle.script_run.proofs.game.call_counts.CallCounts.new.Goals as goal

pub returns : goal.returns
returns c agent good = no_counts c.new.result 8 agent good c.new.ensures
