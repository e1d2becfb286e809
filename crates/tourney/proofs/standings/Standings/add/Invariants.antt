use Rattle.std.proofs.Common.{◌≡◌, take, flat_map}
use Rattle.tourney.specs.Tallies.{with_results, result_if_counts}
use Rattle.tourney.proofs.Ranges.{IsCounted}
use Rattle.tourney.proofs.standings.Standings.add.Given as goal

abbrev pub invariant-loop-agent : goal.invariant-loop-agent
invariant-loop-agent l = record {
  tallies : l.tallies.entries ≡ with_results l.fn.self.tallies (flat_map (result_if_counts (l.game, l.log)) (take l.agent-index l.agent-items));
  counted : IsCounted (l.game, l.log) l.games l.agent-index l.tallies.entries;
}
