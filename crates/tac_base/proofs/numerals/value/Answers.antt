use Rattle.std.proofs.Common.{◌^◌}
use Rattle.tac_base.proofs.NumeralLaws.{overflows, at_end}
use Rattle.tac_base.proofs.numerals.value.Goals as goal

pub returns-in_default : goal.returns-in_default
returns-in_default c = overflows (2 ^ 64) c.loop-digit.n c.loop-digit.digit-index c.args.digits.now _ c.loop-digit-test.true c.loop-digit.invariant.total c.in_default.ensures

pub returns : goal.returns
returns c = at_end (2 ^ 64) c.loop-digit.n c.loop-digit.digit-index c.args.digits.now _ c.loop-digit-test.false c.loop-digit.invariant.total c.loop-digit.invariant.small
