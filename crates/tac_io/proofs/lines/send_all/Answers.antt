use Rattle.std.proofs.Common.{arith, ◌∙◌, take, ap}
use Rattle.tac_io.specs.Known.{known_then}
use Rattle.tac_io.proofs.KnownPieces.{known_then-take, read_nothing_twice}
use Rattle.tac_io.proofs.lines.send_all.Goals as goal

pub loop-done-preserved : goal.loop-done-preserved
loop-done-preserved g c = record {
  within = omega (arith, c.in_ok-done.ensures.bytes.1, c.split_at.ensures.back_len);
  sent = known_then-take _ _ _ _ _ _ c.loop-done.invariant.sent
      (c.in_ok-done.ensures.bytes.2 ∙ ap (λ rest. known_then (g.L.Link.state c.loop-done.link).sent (take c.in_ok-done.field-0 rest)) c.split_at.ensures.back);
  quiet = (c.in_ok-done.ensures.cause ∙ c.loop-done.invariant.quiet.0, c.in_ok-done.ensures.noted ∙ c.loop-done.invariant.quiet.1);
  read = read_nothing_twice (g.L.Link.state c.args.link.now) (g.L.Link.state c.loop-done.link) (g.L.Link.state c.write.new.self) c.loop-done.invariant.read c.write.ensures.read;
}
