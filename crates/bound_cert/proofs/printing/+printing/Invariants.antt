use Rattle.std.proofs.Common.{◌≡◌, ◌++◌, drop}
use Rattle.text_forms.specs.Lines.{text_of}
use Rattle.bound_cert.specs.{forest_of, forest_lines}
use Rattle.bound_cert.proofs.printing.+printing.Given as goal

abbrev pub invariant-print_children-loop-child : goal.invariant-print_children-loop-child
invariant-print_children-loop-child l = l.out.items ++ text_of (forest_lines (forest_of (drop l.child-index l.children.items))) ≡ l.fn.out.items ++ text_of (forest_lines (forest_of l.children.items))
