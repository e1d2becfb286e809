use Rattle.std.proofs.Common.{◌≡◌, ◌*◌, ◌≤◌, length, take}
use Rattle.auction_rules.specs.Effects.{all_trades}
use Rattle.script_run.proofs.game.play_count.trades_in.Given as goal

abbrev pub invariant-loop-position : goal.invariant-loop-position
invariant-loop-position l =
    (l.trades ≡ length (all_trades (take l.position l.auction.history))) × (l.trades ≤ 255 * l.position)
