use Rattle.std.proofs.Common.{◌≡◌, ◌++◌, ◌+◌, ◌*◌, ◌≤◌, take, length, flat_map}
use Rattle.log_text.specs.LogText.{then_signed}
use Rattle.log_text.proofs.printing.lines.push_nets.Given as goal

abbrev pub invariant-loop-dollars : goal.invariant-loop-dollars
invariant-loop-dollars l = record {
  value : l.out ≡ l.fn.out ++ flat_map then_signed (take l.dollars-index l.nets.dollars);
  len : length l.out ≤ length l.fn.out + l.dollars-index * 21;
}
