use Rattle.std.proofs.Common.{◌≡◌, true}
use Rattle.agent_gate.specs.{goes_on, NoReadFails, NoWriteFails, last_of, link_of, session_state}
use Rattle.agent_gate.proofs.UnderWay.{IsUnderWay}
use Rattle.agent_gate.proofs.session.run_session.Given as goal

abbrev pub invariant-loop-answered : goal.invariant-loop-answered
invariant-loop-answered g l = record {
  going : IsUnderWay (g.D.Dialect.form l.fn.dialect) l.fn.game (session_state g.L.Link.state l.fn.lines l.fn.desk) (session_state g.L.Link.state l.lines l.desk) l.answered;
  goes_on : goes_on (last_of l.lines) ≡ true;
  quiet : NoReadFails (g.L.Link.state (link_of l.fn.lines)) (g.L.Link.state (link_of l.lines));
  write_quiet : NoWriteFails (g.L.Link.state (link_of l.fn.lines)) (g.L.Link.state (link_of l.lines));
}
