use Rattle.std.proofs.Common.{◌≡◌, ◌++◌, take}
use Rattle.std.specs.Fmt.{signed_decimal}
use Rattle.text_forms.proofs.RowLoops.{spaced}
use Rattle.game_text.proofs.agent_lines.print_line.Given as goal

abbrev pub invariant-loop-number : goal.invariant-loop-number
invariant-loop-number l = l.out ≡ l.fn.out ++ (l.keyword ++ spaced signed_decimal (take l.number-index l.numbers))
