use Rattle.std.proofs.Common.{◌≤◌, ◌-◌, length, take}
use Rattle.tac_base.specs.declared.limits.TheConstants.{SESSION_LINES}
use Rattle.link_audit.specs.{AsksToLeave, IsBehind, lines_at}
use Rattle.link_audit.proofs.leaving.may_leave.Given as goal

abbrev pub invariant-loop-line : goal.invariant-loop-line
invariant-loop-line g l = record {
  behind : IsBehind
      (AsksToLeave (g.D.Dialect.form l.dialect) (take (SESSION_LINES - l.lines) (lines_at l.asked l.from)))
      (AsksToLeave (g.D.Dialect.form l.dialect) (take (SESSION_LINES - l._line) (lines_at l.asked l.at)));
  within : l.at ≤ length l.asked;
}
