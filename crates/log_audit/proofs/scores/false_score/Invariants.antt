use Rattle.std.proofs.Common.{ℕ, ◌<◌}
use Rattle.log_audit.specs.Flaws.{HasDueScore}
use Rattle.log_audit.proofs.scores.false_score.Given as goal

abbrev pub invariant-loop-agent : goal.invariant-loop-agent
invariant-loop-agent l = (k : ℕ) → k < l.agent-index → HasDueScore l.game l.log k
