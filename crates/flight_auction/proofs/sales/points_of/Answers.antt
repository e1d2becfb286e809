use Rattle.std.proofs.Common.{ap, arith, length, sym, ◌∙◌}
use Rattle.flight_auction.specs.Book.{is_points_agent}
use Rattle.flight_auction.proofs.Points.{points_more}
use Rattle.flight_auction.proofs.sales.points_of.Goals as goal

pub push-requires : goal.push-requires
push-requires c =
    let number = c.args.number in
    let more = points_more number c.args.standing.now c.loop-one.one-index c.one-item.result c.loop-one-test.true
    (ap (is_points_agent number) (sym c.one-item.is) ∙ sym c.is_of.ensures ∙ c.if-is_of.true) in
    (omega arith, omega (arith, more, ap length c.loop-one.invariant, c.requires))
