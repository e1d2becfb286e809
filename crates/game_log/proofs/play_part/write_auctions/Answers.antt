use Rattle.std.proofs.Common.{◌<◌, length, refl, sym, arith}
use Rattle.game_log.proofs.Writing.{gathered_next, failed_next}
use Rattle.log_text.proofs.InOrder.{kept_text}
use Rattle.game_log.proofs.play_part.write_auctions.Goals as goal

pub returns-in_err-write_auction : goal.returns-in_err-write_auction
returns-in_err-write_auction g c =
    failed_next kept_text c.args.auctions.now c.loop-auction.auction-index c.auction-item.result _ _ _ _ _ _ _ c.from_residual.result
    (omega arith) (sym c.auction-item.is) refl c.loop-auction.invariant c.in_err-write_auction.ensures c.from_residual.ensures.0

pub loop-auction-preserved : goal.loop-auction-preserved
loop-auction-preserved g c =
    let auctions = c.args.auctions.now in
    let place = c.loop-auction.auction-index in
    let auction = c.auction-item.result in
    let within : place < length auctions = omega arith in
    let is = sym c.auction-item.is in
    gathered_next kept_text auctions place auction _ _ _ _ _ _ _ within is refl c.loop-auction.invariant c.in_ok-write_auction.ensures
