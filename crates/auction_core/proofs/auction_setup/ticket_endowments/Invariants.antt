use Rattle.std.proofs.Common.{◌≡◌, ℕ, ◌-◌, ◌<◌, [], get_or, length, pos}
use Rattle.auction_core.proofs.auction_setup.ticket_endowments.Given as goal

abbrev pub invariant-loop-agent : goal.invariant-loop-agent
invariant-loop-agent l = record {
  eight : length l.held ≡ 8;
  each : (k : ℕ) → k < l.agent → get_or l.held k (pos 0) ≡ pos (get_or (get_or l.fn.game.endow k []) (l.fn.good - 16) 0);
}
