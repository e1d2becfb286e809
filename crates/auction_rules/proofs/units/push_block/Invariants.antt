use Rattle.std.proofs.Common.{◌≡◌, ◌+◌, ◌++◌, length}
use Rattle.auction_rules.specs.Units.{block}
use Rattle.auction_rules.proofs.units.push_block.Given as goal

abbrev pub invariant-loop-i : goal.invariant-loop-i
invariant-loop-i g l = record {
  units : l.out.items ≡ l.fn.out.items ++ block l.first l.i;
  room : length l.out.items ≡ length l.fn.out.items + l.i;
}
