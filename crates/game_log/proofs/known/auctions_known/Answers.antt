use Rattle.std.proofs.Common.{rules}
use Rattle.std.specs.Prelude.{⊤}
use Rattle.std.proofs.lemmas.Iterator.{cases_from_all, YieldsList-from_slice}
use Rattle.game_log.specs.Prelude.{AuctionHistory, IsHistory, IsAuction}
use Rattle.game_log.proofs.AllTrue.{all_true}
use Rattle.game_log.proofs.known.auctions_known.Goals as goal

pub returns-clause-histories : goal.returns-clause-histories
returns-clause-histories c =
    let IsRanged : AuctionHistory → Type 0 = λ auction. IsHistory auction.setup.good auction.history in
    all_true IsRanged _ c.args.auctions.now _ (cases_from_all _ _ _ IsRanged (λ _. ⊤) c.all.ensures.ran (YieldsList-from_slice c.args.auctions.now (search rules)) (λ x q k. search rules) (λ x q k. tt)) c.if-prove.false

pub returns-clause-shown : goal.returns-clause-shown
returns-clause-shown c =
    all_true IsAuction _ c.args.auctions.now _ (cases_from_all _ _ _ IsAuction (λ _. ⊤) c.all.ensures.ran (YieldsList-from_slice c.args.auctions.now (search rules)) (λ x q k. search rules) (λ x q k. tt)) c.if-prove.false
