use Rattle.std.proofs.Common.{arith}
use Rattle.text_forms.proofs.Stepping.{skips_one}
use Rattle.text_forms.proofs.lines.past_comments.Goals as goal

pub loop-line-preserved : goal.loop-line-preserved
loop-line-preserved c = record {
  small = omega (arith, c.in-Some.ensures.len);
  left = skips_one c.args.skips_comments c.loop-line.number c.loop-line.rest.now c.in-Some.line.now c.in-Some.after.now _ c.in-Some.ensures.parts c.if-not-is_skipped.ensures c.loop-line.invariant.left;
}
