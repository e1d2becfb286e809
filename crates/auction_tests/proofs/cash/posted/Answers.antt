use Rattle.trade_ledger.proofs.Taking.{all_by_place}
use Rattle.auction_tests.proofs.cash.posted.Goals as goal

pub spend_all-requires-after_bounds : goal.spend_all-requires-after_bounds
spend_all-requires-after_bounds g c κs within = all_by_place _ _ (λ k p at. (c.in_ok-lock.ensures.passes.1 k p at).0)
