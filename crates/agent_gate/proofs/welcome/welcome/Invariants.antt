use Rattle.std.proofs.Common.{◌≡◌, ◌<◌, length, ◌++◌, codes, decimal}
use Rattle.agent_gate.specs.Prelude.{lines_of_agent, KeepsPlace, link_of, NoWriteFails, ReadsNothing}
use Rattle.agent_gate.proofs.Greeting.{IsGreeting}
use Rattle.agent_gate.proofs.welcome.welcome.Given as goal

abbrev pub invariant-loop-n : goal.invariant-loop-n
invariant-loop-n g l =
    let before = g.L.Link.state (link_of l.fn.lines) in
    let now = g.L.Link.state (link_of l.lines) in
    record {
      greeting : IsGreeting (codes "welcome " ++ decimal l.fn.agent) (lines_of_agent l.fn.game l.fn.agent) l.n l.text before now;
      nine : 0 < l.n → length (lines_of_agent l.fn.game l.fn.agent) ≡ 9;
      quiet : NoWriteFails before now;
      read : ReadsNothing before now;
      place : KeepsPlace l.fn.lines l.lines;
    }
