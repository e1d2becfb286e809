-- The total of a good's solution.
use Rattle.std.proofs.Common.{◌≡◌, ℕ, ◌<◌, ◌≤◌, List, length, get_or, ◌∙◌, ap, sym, subst, arith}
use Rattle.std.proofs.lemmas.List.{get_or-map, length-map}
use Rattle.bound_cert.specs.declared.solved.Solved.{Solved}
use Rattle.good_worth.specs.{solution_of, solutions_of, worths_of, Solution, no_solution, total_at, AreRanged}

pub total_is : (items : List Solved) (good : ℕ) (s : Solved) → length (solutions_of items) ≡ 28 → good < 28 → s ≡ get_or items good s → total_at (solutions_of items) good ≡ s.total
total_is items good s size lt is =
    let few : good < length items = subst (λ (n : ℕ). good < n) (sym size ∙ length-map items solution_of) lt in
    ap (λ (t : Solution). t.total) (get_or-map solution_of items good s no_solution few) ∙ ap (λ (t : Solved). t.total) (sym is)

pub base_below : (base : Solved) (more less : List Solved) (good : ℕ) (s : Solved) → AreRanged (worths_of base more less) → good < 28 → s ≡ get_or more good s → base.total ≤ s.total
base_below base more less good s are lt is = omega (arith, are.rises good lt, total_is more good s are.more_size lt is)

pub base_above : (base : Solved) (more less : List Solved) (good : ℕ) (s : Solved) → AreRanged (worths_of base more less) → good < 28 → s ≡ get_or less good s → s.total ≤ base.total
base_above base more less good s are lt is = omega (arith, are.falls good lt, total_is less good s are.less_size lt is)
