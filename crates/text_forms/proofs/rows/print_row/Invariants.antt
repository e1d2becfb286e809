use Rattle.std.proofs.Common.{◌≡◌, ◌++◌, take}
use Rattle.std.specs.Fmt.{signed_decimal}
use Rattle.text_forms.proofs.RowLoops.{spaced}
use Rattle.text_forms.proofs.rows.print_row.Given as goal

abbrev pub invariant-loop-number : goal.invariant-loop-number
invariant-loop-number l = l.out.items ≡ l.fn.out.items ++ (l.keyword ++ spaced signed_decimal (take l.number-index l.numbers))
