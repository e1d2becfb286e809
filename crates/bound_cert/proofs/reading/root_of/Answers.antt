use Rattle.std.proofs.Common.{sym, subst, arith}
use Rattle.bound_cert.specs.{IsCertReading, root_in, tree_of}
use Rattle.bound_cert.proofs.RootCases.{long_text, short_text, root_short, reading_short}
use Rattle.bound_cert.proofs.reading.root_of.Goals as goal

pub returns-then-text-clause-exact : goal.returns-then-text-clause-exact
returns-then-text-clause-exact c = long_text c.args.text.now c.if-text.true

pub returns-clause-exact : goal.returns-clause-exact
returns-clause-exact c =
    let read = rw c.new.ensures at c.root_in.ensures in
    subst (IsCertReading tree_of c.root_in.result) (sym (short_text c.args.text.now c.if-text.false)) read

pub returns-clause-too_long : goal.returns-clause-too_long
returns-clause-too_long c = (
  λ h. absurd (reading_short tree_of c.root_in.result (root_in c.new.result) (root_short c.new.result) c.root_in.ensures h),
  λ h. absurd (omega arith),
)
