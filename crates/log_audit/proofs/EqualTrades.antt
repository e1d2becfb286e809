-- `==` of two trades says whether they are equal.
use Rattle.std.proofs.Common.{◌≡◌, arith, Decides}
use Rattle.std.proofs.lemmas.Bool.Decides.{Decides-eqb}
use Rattle.tac_base.specs.contracts.calls.TradePartialEq.TheImpl.{ghosts}
use Rattle.tac_base.specs.declared.calls.Trade.{Trade}

pub trade_decides : (p q : Trade) → Decides (ghosts.eq p q) (p ≡ q)
trade_decides p q =
    let buyer = Decides-eqb p.buyer q.buyer in
    let seller = Decides-eqb p.seller q.seller in
    let good = Decides-eqb p.good q.good in
    let units = Decides-eqb p.units q.units in
    let price = Decides-eqb p.price q.price in
    grind (arith, buyer, seller, good, units, price)
