use Rattle.std.proofs.Common.{◌≤◌, arith}
use Rattle.log_text.proofs.ShownNumbers.{auction_is}
use Rattle.game_log.proofs.known.auction_known.Goals as goal

pub returns-clause-shown : goal.returns-clause-shown
returns-clause-shown c =
    let auction = c.args.auction.now in
    let low : auction.setup.good ≤ 27 = omega (arith, c.good.ensures, c.get-good.ensures.value, c.get-good.ensures.range) in
    auction_is auction low c.len.ensures.loggable
