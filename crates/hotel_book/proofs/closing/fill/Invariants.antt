use Rattle.std.proofs.Common.{◌≡◌, ◌≤◌, take, length, filter_map}
use Rattle.hotel_book.specs.{won, last_price, winner_trade}
use Rattle.hotel_book.proofs.closing.fill.Given as goal

abbrev pub invariant-loop-agent : goal.invariant-loop-agent
invariant-loop-agent l = record {
  trades : l.fills ≡ filter_map (winner_trade l.good (last_price l.ranking.rooms l.ranking.units) (won l.ranking.rooms l.ranking.units)) (take l.agent-index l.agent-items);
  few : length l.fills ≤ l.agent-index;
}
