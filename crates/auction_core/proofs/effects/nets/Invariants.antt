use Rattle.std.proofs.Common.{◌≡◌, ℕ, ◌<◌, get_or, length, pos}
use Rattle.auction_rules.specs.Effects.{dollars}
use Rattle.auction_core.proofs.effects.nets.Given as goal

abbrev pub invariant-loop-number : goal.invariant-loop-number
invariant-loop-number l = record {
  nine : length l.dollars ≡ 9;
  each : (k : ℕ) → k < l.number → get_or l.dollars k (pos 0) ≡ dollars l.trades k;
}
