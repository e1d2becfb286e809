use Rattle.std.proofs.Common.{◌≡◌, ◌+◌, ◌-◌, ◌*◌}
use Rattle.text_forms.specs.Steps.{◌>>=◌}
use Rattle.bound_cert.specs.Reading.{forest_by, tree_in}
use Rattle.bound_cert.proofs.NodeCases.{join}
use Rattle.bound_cert.proofs.reading.+reading.Given as goal

abbrev pub decreases-read_node : goal.decreases-read_node
decreases-read_node l = 2 * l.level

abbrev pub decreases-read_children : goal.decreases-read_children
decreases-read_children l = 2 * l.level + 1

abbrev pub invariant-read_children-loop-i : goal.invariant-read_children-loop-i
invariant-read_children-loop-i l = (forest_by (tree_in l.level) (l.count - l._i) l.left >>= join l.children.items) ≡ forest_by (tree_in l.level) l.count l.fn.lines
