use Rattle.std.proofs.Common.{ℕ, ◌<◌, ◌≤◌}
use Rattle.log_text.specs.SoundLog.{seatings}
use Rattle.log_audit.proofs.heads.do_seats_differ.Given as goal

abbrev pub invariant-loop-agent : goal.invariant-loop-agent
invariant-loop-agent l = (agent : ℕ) → agent < l.agent-index → seatings l.verdicts agent ≤ 1
