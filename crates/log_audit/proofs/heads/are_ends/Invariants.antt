use Rattle.std.proofs.Common.{◌≡◌, ◌≤◌, map, length, take, filter, nat_lt}
use Rattle.log_audit.specs.Prelude.{agents, seatings}
use Rattle.log_audit.proofs.heads.are_ends.Given as goal

abbrev pub invariant-loop-agent : goal.invariant-loop-agent
invariant-loop-agent l = record {
  within : l.ended ≤ length l.ends;
  so_far : take l.ended (map (λ end. end.0) l.ends) ≡ filter (λ agent. nat_lt 0 (seatings l.verdicts agent)) (take l.agent-index agents);
}
