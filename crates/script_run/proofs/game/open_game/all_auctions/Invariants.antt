use Rattle.std.proofs.Common.{◌≡◌, ◌≤◌, map, vec_capacity}
use Rattle.std.specs.List.{range_with_len}
use Rattle.script_run.proofs.OpenGames.{begun}
use Rattle.script_run.proofs.game.open_game.all_auctions.Given as goal

abbrev pub invariant-loop-number : goal.invariant-loop-number
invariant-loop-number l = (l.auctions.items ≡ map (begun l.game) (range_with_len 0 l.number)) × (28 ≤ vec_capacity l.auctions)
