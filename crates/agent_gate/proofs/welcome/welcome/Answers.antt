use Rattle.std.proofs.Common.{◌≡◌, ◌<◌, ◌∙◌, sym, subst, arith, length}
use Rattle.std.proofs.lemmas.Result.{err_from_is_err_and}
use Rattle.agent_gate.specs.{lines_of_agent, link_of, OnlySends, welcome_text}
use Rattle.tac_io.proofs.KnownPieces.{no_write_fails_twice, read_nothing_twice}
use Rattle.agent_gate.proofs.Greeting.{greeting_more, greeting_sent, greeting_stopped}
use Rattle.agent_gate.proofs.welcome.welcome.Goals as goal

pub returns-in_err-send_if_full-clause-sends : goal.returns-in_err-send_if_full-clause-sends
returns-in_err-send_if_full-clause-sends g c =
    let before = c.loop-n.invariant in
    let p = err_from_is_err_and c.from_residual.result c.from_residual.ensures.1 in
    subst (λ r. OnlySends (g.L.Link.state (link_of c.args.lines.now)) (g.L.Link.state (link_of c.send_if_full.new.lines)) (welcome_text c.args.game.now c.args.agent) r) (sym p.1)
    (greeting_stopped _ _ (Unit {0}) _ _ (g.L.Link.state (link_of c.args.lines.now)) (g.L.Link.state (link_of c.loop-n.lines)) (g.L.Link.state (link_of c.send_if_full.new.lines)) p.0 before.greeting before.quiet before.read c.in_err-send_if_full.ensures.failed c.in_err-send_if_full.ensures.cause c.send_if_full.ensures.read)

pub loop-n-preserved : goal.loop-n-preserved
loop-n-preserved g c =
    let inside : c.loop-n.n < length (lines_of_agent c.args.game.now c.args.agent) = omega (arith, c.loop-n-test.true, c.print_agent_line.ensures.count) in
    let before = c.loop-n.invariant in record {
      greeting = greeting_more _ _ c.loop-n.n _ _ _ _ _ _ _ before.greeting c.in_ok-send_if_full.ensures.moved c.print_agent_line.ensures.text c.push-in-loop-n.ensures inside;
      nine = λ some. c.print_agent_line.ensures.count;
      quiet = no_write_fails_twice (g.L.Link.state (link_of c.args.lines.now)) (g.L.Link.state (link_of c.loop-n.lines)) (g.L.Link.state (link_of c.send_if_full.new.lines)) before.quiet c.in_ok-send_if_full.ensures.cause;
      read = read_nothing_twice (g.L.Link.state (link_of c.args.lines.now)) (g.L.Link.state (link_of c.loop-n.lines)) (g.L.Link.state (link_of c.send_if_full.new.lines)) before.read c.send_if_full.ensures.read;
      place = (c.send_if_full.ensures.place.0 ∙ before.place.0, c.send_if_full.ensures.place.1 ∙ before.place.1, c.send_if_full.ensures.place.2 ∙ before.place.2);
    }

pub returns-clause-sends : goal.returns-clause-sends
returns-clause-sends g c =
    let nine : length (lines_of_agent c.args.game.now c.args.agent) ≡ 9 = c.loop-n.invariant.nine (omega (arith, c.loop-n-test.false)) in
    let all : c.loop-n.n ≡ length (lines_of_agent c.args.game.now c.args.agent) = omega (arith, c.loop-n-test.false) in
    greeting_sent _ _ _ _ (g.L.Link.state (link_of c.args.lines.now)) (g.L.Link.state (link_of c.loop-n.lines)) (g.L.Link.state (link_of c.send.new.self)) c.send.result c.loop-n.invariant.greeting all c.loop-n.invariant.quiet c.loop-n.invariant.read
    (subst (λ bytes. OnlySends (g.L.Link.state (link_of c.loop-n.lines)) (g.L.Link.state (link_of c.send.new.self)) bytes c.send.result) c.as_slice.ensures.value c.send.ensures.sends)
