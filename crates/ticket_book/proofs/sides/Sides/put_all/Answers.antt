use Rattle.std.proofs.Common.{◌≡◌, ◌<◌, ℕ, take, sym, subst, arith, ◌==◌, cond, count_by, length-take}
use Rattle.std.proofs.lemmas.List.Sums.{sum_by-append, count_by-le-length}
use Rattle.auction_rules.specs.declared.units.BidUnit.{BidUnit}
use Rattle.ticket_book.specs.Sides.{both}
use Rattle.ticket_book.proofs.Placing.{all_at}
use Rattle.ticket_book.proofs.sides.Sides.put_all.Goals as goal

pub put-requires-clause-few : goal.put-requires-clause-few
put-requires-clause-few c =
    let agent = c.args.agent in
    let i = c.loop-unit.unit-index in
    let own : c.unit-item.result.agent ≡ agent = all_at (λ u. u.agent ≡ agent) c.args.units.now i c.unit-item.result c.loop-unit-test.true c.unit-item.is c.requires.owned in
    let weight : BidUnit → ℕ = λ u. cond (u.agent == agent) 1 0 in
    let few : count_by (λ u. u.agent == agent) (both c.loop-unit.self) < 16 =
    omega (
      arith,
      c.loop-unit.invariant weight,
      sum_by-append weight (both c.args.self.now) (take i c.args.units.now),
      count_by-le-length (λ (u : BidUnit). u.agent == agent) (take i c.args.units.now),
      length-take {A = BidUnit} i c.args.units.now,
      c.requires.few,
      c.loop-unit-test.true,
    ) in
    subst (λ (n : ℕ). count_by (λ u. u.agent == n) (both c.loop-unit.self) < 16) (sym own) few
