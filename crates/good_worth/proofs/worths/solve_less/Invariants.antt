use Rattle.good_worth.specs.{solutions_of, AreChanged}
use Rattle.good_worth.specs.Worth.{less}
use Rattle.good_worth.proofs.worths.solve_less.Given as goal

abbrev pub invariant-loop-good : goal.invariant-loop-good
invariant-loop-good l = AreChanged (less l.account) l.good (solutions_of l.solved.items)
