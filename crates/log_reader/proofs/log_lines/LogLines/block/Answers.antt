use Rattle.log_reader.proofs.LowNumbers.{block_low}
use Rattle.log_reader.proofs.log_lines.LogLines.block.Goals as goal

pub invariant_of-result : goal.invariant_of-result
invariant_of-result c = block_low c.args.count c.self.inside.lines (c.in_ok-block.block.now, c.in_ok-block.lines) c.self.invariant c.in_ok-block.ensures
