use Rattle.std.proofs.Common.{subst}
use Rattle.dual_bound.specs.Choices.{IsChoice}
use Rattle.dual_bound.proofs.ChoiceLaws.{chosen_with, count_with}
use Rattle.dual_bound.proofs.choices.Choice.with.Goals as goal

pub returns-clause-left : goal.returns-clause-left
returns-clause-left c =
    let form = subst IsChoice c.self.view_is c.self.invariant in
    rw c.placed.ensures (chosen_with c.args.self.now c.args.client c.args.feature c.args.value form c.requires.client c.requires.feature c.requires.free)

pub returns-clause-count : goal.returns-clause-count
returns-clause-count c =
    let form = subst IsChoice c.self.view_is c.self.invariant in
    rw c.placed.ensures (count_with c.args.self.now c.args.client c.args.feature c.args.value form c.requires.client c.requires.feature c.requires.free)
