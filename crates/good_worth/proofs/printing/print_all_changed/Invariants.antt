use Rattle.std.proofs.Common.{◌≡◌, ◌++◌}
use Rattle.text_forms.specs.Lines.{text_of}
use Rattle.good_worth.specs.{worths_of, lines_below, changed_lines}
use Rattle.good_worth.proofs.printing.print_all_changed.Given as goal

abbrev pub invariant-loop-good : goal.invariant-loop-good
invariant-loop-good l =
    let v = worths_of l.worths.base l.worths.more.items l.worths.less.items in
    l.out.items ≡ l.fn.out.items ++ text_of (lines_below (changed_lines v) l.good)
