use Rattle.std.proofs.Common.{◌∙◌, sym, subst, IfSome}
use Rattle.game_run.specs.Seatings.{AreTakenPlayed, AreEightPlayed}
use Rattle.game_run.proofs.sessions.run_taken.Goals as goal

pub returns : goal.returns
unfolding AreTakenPlayed
returns g c = subst (λ o. IfSome o (λ p. AreEightPlayed g.L.Link.state
    (g.D.Dialect.form c.args.dialect.now) c.args.game.now p c.run_eight.result)) (sym c.unwrap.ensures ∙ c.take.ensures.value) c.run_eight.ensures
