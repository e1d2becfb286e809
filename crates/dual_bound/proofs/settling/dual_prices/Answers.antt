use Rattle.std.proofs.Common.{sym, subst}
use Rattle.game_text.specs.Accounts.{IsAccount}
use Rattle.relaxation.specs.declared.worth_table.WorthTable.{WorthTable}
use Rattle.dual_bound.specs.{chosen, IsCeiling}
use Rattle.dual_bound.proofs.CeilingLaws.{ceiling_left}
use Rattle.dual_bound.proofs.settling.dual_prices.Goals as goal

pub settled_from-quote-requires : goal.settled_from-quote-requires
settled_from-quote-requires c =
    let account = c.args.account.now in
    let ranges = subst IsAccount c.account.view_is c.account.invariant in
    let left = chosen c.args.choice.now in
    let chosen_ceiling = ceiling_left account ranges left c.new-left.result.worths.dollars c.choose.new.relaxation.worths.dollars c.new-left.ensures c.choose.ensures.keeps in
    subst (λ (w : WorthTable). IsCeiling account left w.dollars) (sym c.repair.ensures) chosen_ceiling
