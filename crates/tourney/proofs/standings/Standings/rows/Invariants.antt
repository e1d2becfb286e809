use Rattle.tourney.specs.Tallies.{AreRowsBelow}
use Rattle.tourney.proofs.standings.Standings.rows.Given as goal

abbrev pub invariant-loop-place : goal.invariant-loop-place
invariant-loop-place l = AreRowsBelow l.self.tallies l.place l.rows.items
