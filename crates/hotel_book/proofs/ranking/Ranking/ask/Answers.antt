use Rattle.std.proofs.Common.{◌≤◌, subst, sym, ℕ}
use Rattle.tac_base.specs.declared.limits.TheConstants.{BID_PRICE}
use Rattle.hotel_book.proofs.Sorting.{last_within}
use Rattle.hotel_book.proofs.ranking.Ranking.ask.Goals as goal

pub returns-clause-within : goal.returns-clause-within
returns-clause-within c =
    subst (λ (n : ℕ). n ≤ BID_PRICE) (sym c.self.invariant.asked) (last_within BID_PRICE c.self.inside.rooms c.self.inside.units.items c.self.invariant.priced)
