use Rattle.std.proofs.Common.{◌≡◌, ◌≤◌, ◌+◌, ◌-◌, length, take}
use Rattle.tac_base.specs.declared.limits.TheConstants.{SESSION_LINES}
use Rattle.link_audit.specs.{memory_replies, replies_at}
use Rattle.line_protocol.specs.declared.asking.RequestFault.TheVariants.{Memory}
use Rattle.line_protocol.specs.declared.saying.Said.TheVariants as said
use Rattle.link_audit.proofs.replies.count_memory.Given as goal

abbrev pub invariant-loop-line : goal.invariant-loop-line
invariant-loop-line g l = record {
  printed : l.text ≡ (g.D.Dialect.form l.dialect).text (said.Fault Memory);
  counted : l.count + memory_replies (g.D.Dialect.form l.dialect).text (take (SESSION_LINES - l._line) (replies_at l.said l.place))
      ≡ memory_replies (g.D.Dialect.form l.dialect).text (take SESSION_LINES (replies_at l.said l.told));
  few : l.count ≤ l._line;
  within : l.place ≤ length l.said;
}
