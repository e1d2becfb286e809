use Rattle.std.proofs.Common.{arith, pos}
use Rattle.json_dialect.proofs.PrintedPoints.{text_more}
use Rattle.json_dialect.proofs.printing.print_points.Goals as goal

pub loop-i-preserved : goal.loop-i-preserved
loop-i-preserved c = record {
  len = omega (arith, c.print_next.ensures.len, c.loop-i.invariant.len);
  text = text_more c.args.out.now c.loop-i.out c.print_next.new.out c.args.points.now c.loop-i.i (record { units = pos 0; price = 0 }) c.loop-i-test.true c.loop-i.invariant.text c.print_next.ensures.value;
}
