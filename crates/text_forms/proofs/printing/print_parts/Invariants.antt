use Rattle.std.proofs.Common.{◌≡◌, ◌++◌, take}
use Rattle.text_forms.specs.{text_of, lines_of_parts}
use Rattle.text_forms.proofs.printing.print_parts.Given as goal

abbrev pub invariant-loop-number : goal.invariant-loop-number
invariant-loop-number g l = l.out.items ≡ l.fn.out.items ++ text_of (lines_of_parts (g.P.PrintedPart.lines l.part) 0 (take l.number l.values))
