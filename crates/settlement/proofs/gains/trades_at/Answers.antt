use Rattle.std.proofs.Common.{Option, Some, subst, arith, Bor, option_copied}
use Rattle.tac_base.specs.declared.calls.Entry.{Entry as StoredEntry}
use Rattle.auction_core.specs.Stored.{IsShown}
use Rattle.settlement.proofs.Dollars.{shown_count}
use Rattle.settlement.proofs.gains.trades_at.Goals as goal

pub returns-clause-few : goal.returns-clause-few
returns-clause-few c =
    let history = c.args.auction.now.history in let position = c.args.position in let shown : StoredEntry = c.unwrap.result.now in
    let is : IsShown history position (Some shown) = subst (λ (o : Option (Bor StoredEntry)). IsShown history position (option_copied o)) c.unwrap.ensures c.entry.ensures in
    omega (arith, shown_count history position shown c.trades_of.result.now is c.trades_of.ensures, c.trade_count-few.ensures.value, c.trade_count-few.ensures.few)
