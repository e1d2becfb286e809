use Rattle.std.specs.Fmt.{signed_decimal}
use Rattle.text_forms.proofs.RowLoops.{line_done}
use Rattle.text_forms.proofs.rows.print_row.Goals as goal

pub returns-clause-added : goal.returns-clause-added
returns-clause-added c = line_done signed_decimal c.args.out.now.items c.args.keyword.now c.loop-number.out.items c.push.new.self.items c.args.numbers.now c.loop-number.number-index c.loop-number-test.false c.loop-number.invariant c.in_ok-push.ensures.items
