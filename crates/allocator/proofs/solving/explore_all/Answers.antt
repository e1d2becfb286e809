use Rattle.std.proofs.Common.{◌≡◌, true, ap, subst, ◌∙◌}
use Rattle.allocator.specs.Prelude.{Narrowing, holds, tree_of, chosen}
use Rattle.allocator.proofs.ChoiceStart.{chosen_nothing}
use Rattle.allocator.proofs.Growing.{leaf_fits}
use Rattle.allocator.proofs.solving.explore_all.Goals as goal

pub returns-then-holds-clause-fits : goal.returns-then-holds-clause-fits
returns-then-holds-clause-fits c = leaf_fits 32 c.leaf.result c.in-Some.quote.prices c.leaf.ensures.view (c.leaf.ensures.fits 32)

pub shorter_of-requires-clause-holds : goal.shorter_of-requires-clause-holds
shorter_of-requires-clause-holds c =
    subst (λ (left : Narrowing). holds c.args.account.now c.explore.new.best.total left (tree_of c.in-Ok.root) ≡ true) (ap chosen c.none-all.ensures ∙ chosen_nothing) c.in-Ok.ensures.holds
