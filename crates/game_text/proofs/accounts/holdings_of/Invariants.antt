use Rattle.std.proofs.Common.{◌≡◌, take, length}
use Rattle.game_text.proofs.accounts.holdings_of.Given as goal

abbrev pub invariant-loop-good : goal.invariant-loop-good
invariant-loop-good l = record {
  count : length l.holdings ≡ 28;
  written : take l.good l.holdings ≡ take l.good l.numbers;
}
