-- The worths as plain values.
use Rattle.std.specs.Prelude.{List, map}
use Rattle.bound_cert.specs.declared.solved.Solved.{Solved}
use Rattle.bound_cert.specs.Views.{tree_of}
use Rattle.good_worth.specs.Worths.{Solution, Valuation}

abbrev pub solution_of : Solved → Solution
solution_of s = record { total = s.total; allocation = s.allocation; tree = tree_of s.cert.root }

abbrev pub solutions_of : List Solved → List Solution
solutions_of solved = map solution_of solved

abbrev pub worths_of : Solved → List Solved → List Solved → Valuation
worths_of base more less = record { base = solution_of base; more = solutions_of more; less = solutions_of less }
