use Rattle.std.proofs.Common.{◌∙◌, refl, sym}
use Rattle.game_run.proofs.WholeGames.{all_filled, not_played, was_played, filled_after, at_err, at_ok, rose_at_err, same_at_ok}
use Rattle.game_run.proofs.run.run_game.Goals as goal
use Rattle.game_run.specs.Hosted.{hosted_game}

pub leave-requires-clause-filled : goal.leave-requires-clause-filled
leave-requires-clause-filled g c = all_filled g.N.Link.Link.state c.args.game.now _ c.admit.new.arrivals c.admit.ensures.taken.kept

pub returns-then-is_err-clause-not_played : goal.returns-then-is_err-clause-not_played
returns-then-is_err-clause-not_played g c =
    let failed = sym c.is_err.ensures.value ∙ c.if-is_err.true in
    not_played g.N.Link.Link.state (hosted_game c.args.game.now (g.D.Dialect.form c.args.dialect.now) c.args.port) _ _ c.admit.new.arrivals c.leave.result.items c.admit.ensures.taken (at_err c.admit.result _ failed c.admit.ensures.more) c.leave.ensures
    c.admit.ensures.ports (rose_at_err _ _ c.admit.result failed c.admit.ensures.cause)

pub in_order-requires-clause-filled : goal.in_order-requires-clause-filled
in_order-requires-clause-filled g c =
    let kept = c.admit.ensures.taken.kept in
    filled_after g.N.Link.Link.state (g.D.Dialect.form c.args.dialect.now) c.args.game.now c.play_out-closed.result.closed c.play_out-closed.result.ends.items c.admit.new.arrivals.lines.items c.play_out-closed.result.links.items c.admit.new.arrivals.holders.items
    kept.wide c.play_out-closed.ensures.through (all_filled g.N.Link.Link.state c.args.game.now _ c.admit.new.arrivals kept)

pub returns-clause-played : goal.returns-clause-played
returns-clause-played g c = record {
  verdicts = c.admit.new.arrivals.verdicts.items;
  ends = c.play_out-closed.result.ends.items;
  missed = c.play_out-closed.result.missed;
  head = refl;
  played = was_played g.N.Link.Link.state (hosted_game c.args.game.now (g.D.Dialect.form c.args.dialect.now) c.args.port) c.admit.new.arrivals
      c.play_out-closed.result.closed c.play_out-closed.result.ends.items _ _ c.play_out-closed.result.links.items c.in_order.result.items c.admit.ensures.taken
      (at_ok c.admit.result _ (sym c.is_err.ensures.value ∙ c.if-is_err.false) c.admit.ensures.no_fewer) c.admit.ensures.ports c.play_out-closed.ensures.through c.in_order.ensures;
  no_fault = same_at_ok _ _ c.admit.result (sym c.is_err.ensures.value ∙ c.if-is_err.false) c.admit.ensures.cause;
}
