use Rattle.std.proofs.Common.{◌≡◌, ◌-◌, ◌≤◌, ◌∷◌, [], IsTrue, count_by, vec_len, vec_capacity}
use Rattle.tac_io.specs.Known.{known_then}
use Rattle.game_run.specs.{is_seated, seats_given, AreTaken}
use Rattle.game_run.proofs.admission.admit.Given as goal

abbrev pub invariant-loop-seated : goal.invariant-loop-seated
invariant-loop-seated g l = record {
  taken : AreTaken g.N.Link.Link.state
      l.game (g.N.Links.state l.fn.links).pending (g.N.Links.state l.links).pending l.arrivals;
  gate : l.gate ≡ seats_given l.game l.arrivals.verdicts.items;
  seated : l.seated ≡ count_by is_seated l.arrivals.verdicts.items;
  listens : IsTrue (g.N.Links.state l.links).listens;
  ports : (g.N.Links.state l.links).ports ≡ known_then (g.N.Links.state l.fn.links).ports (l.port ∷ []);
  quiet : (g.N.Links.state l.links).faults ≡ (g.N.Links.state l.fn.links).faults;
  verdicts : vec_capacity l.arrivals.verdicts ≡ 64;
  holders : vec_capacity l.arrivals.holders ≡ 64;
  as_many : vec_len l.arrivals.holders ≡ vec_len l.arrivals.verdicts;
  few : vec_len l.arrivals.verdicts ≤ 64;
  wide : vec_len l.arrivals.lines ≡ 8;
}

abbrev pub decreases-loop-seated : goal.decreases-loop-seated
decreases-loop-seated g l = 64 - vec_len l.arrivals.verdicts
