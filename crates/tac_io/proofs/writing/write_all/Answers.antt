use Rattle.std.proofs.Common.{arith, ◌∙◌, take, ap}
use Rattle.tac_io.specs.Known.{known_then}
use Rattle.tac_io.proofs.KnownPieces.{known_then-take}
use Rattle.tac_io.proofs.writing.write_all.Goals as goal

pub loop-done-preserved : goal.loop-done-preserved
loop-done-preserved g c = record {
  within = omega (arith, c.in_ok-done.ensures.bytes.1, c.split_at.ensures.back_len);
  taken = known_then-take _ _ _ _ _ _ c.loop-done.invariant.taken
      (c.in_ok-done.ensures.bytes.2 ∙ ap (λ rest. known_then (g.K.Sink.state c.loop-done.sink).taken (take c.in_ok-done.field-0 rest)) c.split_at.ensures.back);
  quiet = c.in_ok-done.ensures.cause ∙ c.loop-done.invariant.quiet;
  unmarked = c.in_ok-done.ensures.noted ∙ c.loop-done.invariant.unmarked;
}
