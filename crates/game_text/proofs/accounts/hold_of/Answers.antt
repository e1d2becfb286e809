use Rattle.std.proofs.Common.{rules, ◌≡◌, length}
use Rattle.game_text.proofs.AccountLaws.{each_held}
use Rattle.game_text.proofs.accounts.hold_of.Goals as goal

pub holdings_of-requires : goal.holdings_of-requires
holdings_of-requires c = let count : length c.in_ok-numbers.numbers ≡ 28 = search rules in each_held c.in_ok-numbers.numbers count (search rules)
