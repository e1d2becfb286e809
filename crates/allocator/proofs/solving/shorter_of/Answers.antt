use Rattle.std.proofs.Common.{◌≡◌, true, ap, subst, ◌∙◌}
use Rattle.allocator.specs.Prelude.{Narrowing, holds, all_left, tree_of, chosen}
use Rattle.allocator.proofs.ChoiceStart.{chosen_nothing}
use Rattle.allocator.proofs.Claims.{holds_more}
use Rattle.allocator.proofs.solving.shorter_of.Goals as goal

pub returns-in-Ok-clause-holds : goal.returns-in-Ok-clause-holds
returns-in-Ok-clause-holds c =
    subst (λ (left : Narrowing). holds c.args.account.now c.explore.new.best.total left (tree_of c.in-Ok.less) ≡ true) (ap chosen c.none-all.ensures ∙ chosen_nothing) c.in-Ok.ensures.holds

pub returns-in-Err-clause-holds : goal.returns-in-Err-clause-holds
returns-in-Err-clause-holds c = holds_more c.args.account.now c.args.best.now.total c.explore.new.best.total all_left (tree_of c.args.root) c.requires.holds c.explore.ensures.grows
