use Rattle.std.proofs.Common.{◌≡◌, ℤ, arith, ◌∙◌, ap, w8, w32, to_z, of_z}
use Rattle.std.proofs.lemmas.Int.{ints, to_z-of_z}
use Rattle.auction_rules.specs.FlightRule as rule
use Rattle.flight_auction.proofs.Drifts.{Within, within, kept, sum_steps}
use Rattle.flight_auction.proofs.prices.next_price.Goals as goal

pub returns-clause-value : goal.returns-clause-value
returns-clause-value c =
    let x = c.drift-x.result in
    let x_within : Within 30 x = within 30 x (omega (arith, ints)) (omega (arith, ints)) in
    let x_kept : to_z w32 (of_z w32 x) ≡ x = kept x (omega (arith, x_within)) in
    let bound : to_z w8 (of_z w8 c.args.bound) ≡ c.args.bound = to_z-of_z w8 c.args.bound c.ranges.bound in
    let x_is : c.drift-x.result ≡ rule.drift c.args.bound c.args.tick = c.drift-x.ensures.value ∙ ap (λ (z : ℤ). rule.drift z c.args.tick) bound in
    let low_within : Within 10 c.low_end.result = within 10 c.low_end.result (omega (arith, ints)) (omega (arith, ints)) in
    let low : to_z w32 (of_z w32 c.low_end.result) ≡ rule.low_end (rule.drift c.args.bound c.args.tick) =
    kept c.low_end.result (omega (arith, low_within)) ∙ c.low_end.ensures.value ∙ ap rule.low_end (x_kept ∙ x_is) in
    let high_within : Within 30 c.high_end.result = within 30 c.high_end.result (omega (arith, ints)) (omega (arith, ints)) in
    let high : to_z w32 (of_z w32 c.high_end.result) ≡ rule.high_end (rule.drift c.args.bound c.args.tick) =
    kept c.high_end.result (omega (arith, high_within)) ∙ c.high_end.ensures.value ∙ ap rule.high_end (x_kept ∙ x_is) in
    let change_within : Within 30 c.change.result = within 30 c.change.result (omega (arith, ints)) (omega (arith, ints)) in
    sum_steps c.from.result c.change.result c.clamp.result (within 800 c.from.result (omega (arith, ints)) (omega (arith, ints))) change_within c.clamp.ensures.value
    ∙ rw (c.from.ensures, c.change.ensures.value, low, high)
