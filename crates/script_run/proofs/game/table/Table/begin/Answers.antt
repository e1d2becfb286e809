use Rattle.std.proofs.Common.{sym, subst, replicate}
use Rattle.script_run.specs.{GameState, AreCounted}
use Rattle.script_run.proofs.Tables.{counted_opening}
use Rattle.script_run.proofs.game.table.Table.begin.Goals as goal

pub invariant_of-result : goal.invariant_of-result
invariant_of-result c =
    subst (λ (s : GameState). AreCounted c.in_ok-open.open.game s c.new.result (replicate 8 0)) (sym c.in_ok-open.ensures.1)
    (counted_opening c.in_ok-open.open.game c.new.result c.new.ensures)
