use Rattle.settlement.proofs.settling.settle_auctions.Goals as goal

pub returns : goal.returns
returns c = λ i. record { holdings = c.all_holdings.ensures.value i; cash = c.all_cash.ensures.value i }
