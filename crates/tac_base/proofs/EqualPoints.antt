-- `==` of two points says whether they are equal.
use Rattle.std.proofs.Common.{◌≡◌, arith, Decides}
use Rattle.std.proofs.lemmas.Bool.Decides.{Decides-int_eq, Decides-eqb}
use Rattle.tac_base.specs.contracts.bids.PointPartialEq.TheImpl.{ghosts}
use Rattle.tac_base.specs.declared.bids.Point.{Point}

pub point_decides : (p q : Point) → Decides (ghosts.eq p q) (p ≡ q)
point_decides p q =
    let units = Decides-int_eq p.units q.units in
    let price = Decides-eqb p.price q.price in
    grind (arith, units, price)
