use Rattle.std.proofs.Common.{◌≡◌}
use Rattle.link_audit.specs.Ahead.{entry_caller, rest_of}
use Rattle.link_audit.proofs.next.next_entry.Given as goal

-- nothing of the agent stands before the position
abbrev pub invariant-loop-position : goal.invariant-loop-position
invariant-loop-position l = rest_of entry_caller l.agent l.from l.history ≡ rest_of entry_caller l.agent l.position l.history
