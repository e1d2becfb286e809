use Rattle.std.proofs.Common.{◌≡◌, drop}
use Rattle.bound_cert.specs.{forest_of, left_by, all_hold}
use Rattle.bound_cert.proofs.checking.+holding.Given as goal

abbrev pub invariant-children_hold-loop-value : goal.invariant-children_hold-loop-value
invariant-children_hold-loop-value l =
    all_hold l.account l.claim (left_by l.way) l.client l.feature l.value (forest_of (drop l.value l.children.items))
    ≡ all_hold l.account l.claim (left_by l.way) l.client l.feature 0 (forest_of l.children.items)
