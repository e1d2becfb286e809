use Rattle.std.proofs.Common.{subst, ◌∙◌, ap}
use Rattle.allocator.specs.Prelude.{ArePrices, leaf}
use Rattle.bound_cert.proofs.Views.{tree_of-Leaf}
use Rattle.allocator.proofs.Growing.{is_tree-leaf}
use Rattle.allocator.proofs.searching.leaf.Goals as goal

pub returns-clause-view : goal.returns-clause-view
returns-clause-view c = tree_of-Leaf c.prices.inside.dollars ∙ ap leaf c.prices.view_is

pub returns-clause-fits : goal.returns-clause-fits
returns-clause-fits c = is_tree-leaf c.args.prices.now (subst ArePrices c.prices.view_is c.prices.invariant)
