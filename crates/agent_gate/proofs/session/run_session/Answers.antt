use Rattle.std.proofs.Common.{◌≡◌, ◌∙◌, ap, sym, subst, refl, arith}
use Rattle.std.proofs.lemmas.Result.{IfOk-at_ok}
use Rattle.agent_gate.specs.{goes_on, link_of, known_then, TakesSome, desk_caller, welcome_text}
use Rattle.tac_io.proofs.KnownPieces.{gave_nothing, no_read_fails_twice, no_write_fails_twice}
use Rattle.agent_gate.proofs.DeskTurns.{made_none}
use Rattle.agent_gate.proofs.UnderWay as session
use Rattle.agent_gate.proofs.session.run_session.Goals as goal

pub returns-in_default : goal.returns-in_default
returns-in_default g c =
    let agent : c.unwrap-agent.result ≡ desk_caller c.args.desk = IfOk-at_ok (λ made. made ≡ c.get.result) c.unwrap-agent.ensures c.new.ensures.value ∙ (c.get.ensures.value ∙ c.caller.ensures) in record {
      session = session.session_as _ _ _ _ _ _ _ _ _ (ap (λ l. g.L.Link.state l) c.into_link.ensures) refl
          (session.ends_at_once _ _ _ _ (gave_nothing (g.L.Link.state (link_of c.args.lines)) (g.L.Link.state (link_of c.welcome.new.lines)) c.welcome.ensures.sends.2.0 c.welcome.ensures.sends.2.1) (made_none c.args.desk c.requires.no_calls.0 c.requires.no_calls.1)
          (subst (λ a. TakesSome (g.L.Link.state (link_of c.args.lines)).sent (g.L.Link.state (link_of c.welcome.new.lines)).sent (welcome_text c.args.game.now a)) agent c.in_default.ensures.sends.0)
          (c.welcome.ensures.sends.2.2, c.in_default.ensures.sends.1));
    }

pub loop-answered-init : goal.loop-answered-init
loop-answered-init g c =
    let agent : c.unwrap-agent.result ≡ desk_caller c.args.desk = IfOk-at_ok (λ made. made ≡ c.get.result) c.unwrap-agent.ensures c.new.ensures.value ∙ (c.get.ensures.value ∙ c.caller.ensures) in record {
      going = session.under_way_at_first _ _ _ _ _ _ c.welcome.ensures.place.0 c.welcome.ensures.place.1 (gave_nothing (g.L.Link.state (link_of c.args.lines)) (g.L.Link.state (link_of c.welcome.new.lines)) c.welcome.ensures.sends.2.0 c.welcome.ensures.sends.2.1)
          (made_none c.args.desk c.requires.no_calls.0 c.requires.no_calls.1)
          (c.in-Ok.ensures.sends.0 ∙ ap (λ a. known_then (g.L.Link.state (link_of c.args.lines)).sent (welcome_text c.args.game.now a)) agent);
      goes_on = ap goes_on c.welcome.ensures.place.2 ∙ c.requires.goes_on;
      quiet = c.welcome.ensures.sends.2.2;
      write_quiet = c.in-Ok.ensures.sends.1;
    }

pub loop-answered-preserved : goal.loop-answered-preserved
loop-answered-preserved g c = record {
  going = session.goes_on _ _ _ _ _ c.loop-answered.invariant.going _ tt c.in_default-turn.ensures.turn c.turn.ensures.same;
  goes_on = c.in_default-turn.ensures.goes_on;
  quiet = no_read_fails_twice (g.L.Link.state (link_of c.args.lines)) (g.L.Link.state (link_of c.loop-answered.lines)) (g.L.Link.state (link_of c.turn.new.lines)) c.loop-answered.invariant.quiet c.in_default-turn.ensures.cause.0;
  write_quiet = no_write_fails_twice (g.L.Link.state (link_of c.args.lines)) (g.L.Link.state (link_of c.loop-answered.lines)) (g.L.Link.state (link_of c.turn.new.lines)) c.loop-answered.invariant.write_quiet c.in_default-turn.ensures.cause.1;
}

pub returns-in-Err : goal.returns-in-Err
returns-in-Err g c = record {
  session = session.session_as _ _ _ _ _ _ _ _ _ (ap (λ l. g.L.Link.state l) c.into_link-in-Err.ensures) c.whole.ensures
      (session.ends _ _ _ _ _ c.loop-answered.invariant.going _ c.in-Err.cause c.in-Err.ensures.turn c.turn.ensures.same c.loop-answered-test.true
      (session.caused_from (g.L.Link.state (link_of c.args.lines)) (g.L.Link.state (link_of c.loop-answered.lines)) (g.L.Link.state (link_of c.turn.new.lines))
      c.loop-answered.invariant.quiet c.loop-answered.invariant.write_quiet c.in-Err.cause c.in-Err.ensures.cause));
}

pub returns : goal.returns
returns g c =
    let full : c.loop-answered.answered ≡ 65536 = omega arith in record {
      session = session.session_as _ _ _ _ _ _ _ _ _ (ap (λ l. g.L.Link.state l) c.into_link-2.ensures) (sym full)
          (session.ends_full _ _ _ _ _ c.loop-answered.invariant.going full (c.loop-answered.invariant.quiet, c.loop-answered.invariant.write_quiet));
    }
