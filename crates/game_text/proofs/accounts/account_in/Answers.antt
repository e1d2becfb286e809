use Rattle.std.proofs.Common.{sym}
use Rattle.game_text.proofs.AccountLaws.{holdings_kept, clients_kept}
use Rattle.game_text.proofs.accounts.account_in.Goals as goal

pub invariant_of-result : goal.invariant_of-result
invariant_of-result c =
    let held = holdings_kept c.in_ok-left.left (c.in_ok-holdings.holdings, c.in_ok-holdings.left) (sym c.in_ok-holdings.ensures) in
    record {
      clients = clients_kept c.in_ok-holdings.left (c.repeat.new.values, c.in_ok-left-2.left) c.in_ok-left-2.ensures;
      count = held.count;
      holdings = held.each;
    }
