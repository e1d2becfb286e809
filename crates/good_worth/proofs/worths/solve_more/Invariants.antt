use Rattle.good_worth.specs.{solutions_of, AreChanged}
use Rattle.good_worth.specs.Worth.{more}
use Rattle.good_worth.proofs.worths.solve_more.Given as goal

abbrev pub invariant-loop-good : goal.invariant-loop-good
invariant-loop-good l = AreChanged (more l.account) l.good (solutions_of l.solved.items)
