use Rattle.std.proofs.Common.{sym, subst}
use Rattle.log_reader.specs.Numbers.{AreLow}
use Rattle.log_reader.proofs.LowNumbers.{whole_low}
use Rattle.log_reader.proofs.log_lines.LogLines.new.Goals as goal

pub invariant_of-result : goal.invariant_of-result
invariant_of-result c = subst AreLow (sym c.new.ensures) (whole_low c.args.text.now c.requires)
