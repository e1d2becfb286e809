use Rattle.std.proofs.Common.{◌≡◌, ℕ, ◌<◌}
use Rattle.log_text.specs.SoundLog.{seatings, HasNoEntry}
use Rattle.log_audit.proofs.heads.are_others_absent.Given as goal

abbrev pub invariant-loop-agent : goal.invariant-loop-agent
invariant-loop-agent l = (agent : ℕ) → agent < l.agent-index → seatings l.verdicts agent ≡ 0 → HasNoEntry l.log agent
