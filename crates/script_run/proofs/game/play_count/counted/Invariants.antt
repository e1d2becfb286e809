use Rattle.std.proofs.Common.{◌≡◌, ◌*◌, ◌≤◌, length, take, sum_by}
use Rattle.script_run.specs.Prelude.{all_trades, AuctionHistory}
use Rattle.script_run.proofs.game.play_count.counted.Given as goal

abbrev pub invariant-loop-auction : goal.invariant-loop-auction
invariant-loop-auction l =
    (l.count.entries ≡ sum_by (λ (a : AuctionHistory). length a.history) (take l.auction-index l.closed.auctions))
    × (l.count.trades ≡ sum_by (λ (a : AuctionHistory). length (all_trades a.history)) (take l.auction-index l.closed.auctions))
    × (l.count.entries ≤ 8256 * l.auction-index)
    × (l.count.trades ≤ 2105280 * l.auction-index)
