use Rattle.std.proofs.Common.{rules, arith, ◌∙◌, ap, take}
use Rattle.std.proofs.lemmas.List.{with_items_is, places}
use Rattle.tac_io.proofs.WholeFiles.{reads_on}
use Rattle.tac_io.proofs.reading.read_file.Goals as goal

pub loop-bytes-preserved : goal.loop-bytes-preserved
loop-bytes-preserved g c = record {
  within = omega (arith, c.in_ok-count.ensures.within);
  limited = omega (arith, c.in_ok-grow_to_read.ensures.room.1);
  going = omega arith;
  reading = rw (with_items_is c.grow_to_read.new.bytes c.read_at.new.bytes (search (rules, places)))
      (reads_on _ _ _ _ _ _ _ _ c.loop-bytes.invariant.reading
      (c.read_at.ensures.front ∙ ap (take c.loop-bytes.filled) c.deref_mut.ensures.value ∙ c.grow_to_read.ensures.front)
      c.in_ok-count.ensures.given.1);
  selected = c.in_ok-count.ensures.selected;
  names = c.in_ok-count.ensures.names ∙ c.loop-bytes.invariant.names;
  content = c.in_ok-count.ensures.content ∙ c.loop-bytes.invariant.content;
  quiet = c.in_ok-count.ensures.cause ∙ c.loop-bytes.invariant.quiet;
}
