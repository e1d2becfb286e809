use Rattle.text_forms.proofs.PrintLoops.{prints_one}
use Rattle.text_forms.proofs.printing.print_parts.Goals as goal

pub loop-number-preserved : goal.loop-number-preserved
loop-number-preserved g c =
    prints_one (g.P.PrintedPart.lines c.args.part.now) c.args.out.now.items c.loop-number.out.items c.print.new.out.items c.args.values.now c.loop-number.number c.index-values-number.result c.loop-number-test.true c.index-values-number.is c.loop-number.invariant c.in_ok-print.ensures
