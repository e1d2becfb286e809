use Rattle.std.proofs.Common.{ℕ, ◌<◌, sym, subst}
use Rattle.log_audit.specs.Prelude.{CashCall, gain_of, IsWithin}
use Rattle.log_audit.proofs.readings.reads_total.Goals as goal

pub returns-in-Post-clause-small : goal.returns-in-Post-clause-small
returns-in-Post-clause-small c = subst (λ (call : CashCall). (party : ℕ) → party < 9 → IsWithin 2147483648 (gain_of call party)) (sym c.in-Post.is) c.add_nets.ensures.small
