use Rattle.std.proofs.Common.{◌≡◌}
use Rattle.link_audit.specs.Ahead.{cash_caller, rest_of}
use Rattle.link_audit.proofs.cash.next_cash.Given as goal

-- nothing of the agent stands before the position
abbrev pub invariant-loop-position : goal.invariant-loop-position
invariant-loop-position l = rest_of cash_caller l.agent l.from l.log.cash ≡ rest_of cash_caller l.agent l.position l.log.cash
