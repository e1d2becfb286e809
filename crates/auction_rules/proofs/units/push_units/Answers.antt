use Rattle.std.proofs.Common.{pos, arith, ◌∙◌}
use Rattle.auction_rules.specs.Prelude.{Point, size_of}
use Rattle.std.proofs.lemmas.List.Sums.{sum_by-drop_more}
use Rattle.auction_rules.proofs.Blocks.{units_from_more, cheap-units_of}
use Rattle.auction_rules.proofs.units.push_units.Goals as goal

pub loop-point-preserved : goal.loop-point-preserved
loop-point-preserved g c =
    let d : Point = record { units = pos 0; price = 0 } in
    let points = c.as_slice-point-items.result.now in
    let i = c.loop-point.point-index in
    let more = sum_by-drop_more size_of points i d c.loop-point-test.true in
    let units = c.push_point-from.ensures.units in
    let size = c.push_point-from.ensures.size in
    record {
      numbered = omega (arith, more, size, c.loop-point.invariant.numbered);
      room = omega (arith, c.push_point-from.ensures.len, c.loop-point.invariant.room);
      units = rw (units, size) (units_from_more c.loop-point.out.items c.args.bid.now.agent c.args.bid.now.position c.loop-point.from points i d c.loop-point-test.true ∙ c.loop-point.invariant.units);
    }

pub returns-clause-priced : goal.returns-clause-priced
returns-clause-priced g c = cheap-units_of c.args.bid.now c.as_slice-point-items.ensures.priced
