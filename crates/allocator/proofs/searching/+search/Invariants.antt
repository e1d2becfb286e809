use Rattle.std.proofs.Common.{◌≡◌, ◌+◌, ◌-◌, ◌*◌, ◌<◌, ◌≤◌, true, length}
use Rattle.allocator.specs.{are_trees, forest_of, stock_value, chosen, all_hold, IsReached}
use Rattle.allocator.proofs.searching.+search.Given as goal

abbrev pub decreases-explore_parts : goal.decreases-explore_parts
decreases-explore_parts l = 3 * (32 - l.level)

abbrev pub decreases-explore : goal.decreases-explore
decreases-explore l = 3 * (32 - l.level) + 1

abbrev pub decreases-explore_part : goal.decreases-explore_part
decreases-explore_part l = 3 * (32 - l.level) + 2

abbrev pub invariant-explore_parts-loop-value : goal.invariant-explore_parts-loop-value
invariant-explore_parts-loop-value l = record {
  few : l.level < 32;
  reached : IsReached l.search.account.now l.best.allocation l.best.total;
  grows : l.initial.best.total ≤ l.best.total;
  stock : l.quote.stock_value ≡ stock_value l.search.account.now.holdings l.quote.prices;
  count : length l.children.items ≡ l.value;
  hold : all_hold l.search.account.now l.best.total (chosen l.choice) l.client l.feature 0 (forest_of l.children.items) ≡ true;
  fit : are_trees (31 - l.level) (forest_of l.children.items) ≡ true;
}
