use Rattle.link_audit.proofs.Cuts.{range_more, range_line, range_rest}
use Rattle.link_audit.proofs.lines.line_end.Goals as goal

pub loop-place-preserved : goal.loop-place-preserved
loop-place-preserved c = range_more c.args.bytes.now c.args.from c.loop-place.place c.loop-place.auto.place c.loop-place-test.true c.if-bytes-place-eq10.false c.loop-place.invariant

pub returns-then-bytes-place-eq10 : goal.returns-then-bytes-place-eq10
returns-then-bytes-place-eq10 c = (
  c.loop-place.auto.place,
  c.loop-place-test.true,
  range_line c.args.bytes.now c.args.from c.loop-place.place c.loop-place.auto.place c.loop-place-test.true c.if-bytes-place-eq10.true c.loop-place.invariant,
)

pub returns : goal.returns
returns c = range_rest c.args.bytes.now c.args.from c.loop-place.place c.loop-place-test.false c.loop-place.invariant
