use Rattle.std.proofs.Common.{pos, arith}
use Rattle.std.proofs.lemmas.List.Sums.{sum_by_more}
use Rattle.tac_base.specs.declared.bids.Point.{Point}
use Rattle.auction_rules.proofs.Counts.{offered_by}
use Rattle.hotel_book.proofs.Offers.{offered_one}
use Rattle.hotel_book.proofs.quotes.offered.Goals as goal

pub loop-point-preserved : goal.loop-point-preserved
loop-point-preserved c =
    let d : Point = record { units = pos 0; price = 0 } in
    let more = sum_by_more (offered_by c.args.at) c.args.points.now c.loop-point.point-index d c.loop-point-test.true in
    let bound = offered_one c.args.points.now c.args.at c.loop-point.point-index d c.loop-point-test.true in
    let one = c.offered_by-total.ensures in
    record {
      value = omega (arith, more, one, c.loop-point.invariant.value);
      few = omega (arith, bound, one, c.loop-point.invariant.value, c.requires);
    }
