use Rattle.std.proofs.Common.{◌≡◌, ℕ, ℤ, List, length-set, get_or, sym, ap, ◌∙◌, subst, arith, to_z, of_z, w64}
use Rattle.settlement.specs.{agents, IsWithin, cash_gained}
use Rattle.settlement.proofs.Dollars.{fits}
use Rattle.settlement.proofs.Filling.{filled_more, all_more}
use Rattle.settlement.proofs.settling.all_cash.Goals as goal

pub loop-number-preserved : goal.loop-number-preserved
loop-number-preserved c =
    let so_far = c.loop-number.invariant in let place = c.loop-number.number in let cash = c.loop-number.cash in
    let agent : ℕ = c.agent-item.result in let gain = c.gain_of_game in
    let is : agent ≡ get_or agents place agent = c.agent-item.is ∙ ap (λ (xs : List ℕ). get_or xs place agent) c.all.ensures in
    let number : ℤ = to_z w64 (of_z w64 gain.result) in
    let same : number ≡ gain.result = fits gain.result gain.ensures.bound in
    let value : number ≡ cash_gained c.args.auctions.now agent = same ∙ (gain.ensures.value ∙ ap (cash_gained c.args.auctions.now) (c.party.ensures ∙ sym c.agent-item.is)) in
    record {
      count = length-set cash place number ∙ so_far.count;
      filled = filled_more (cash_gained c.args.auctions.now) agents cash place agent number c.loop-number-test.true is (omega (arith, so_far.count)) value so_far.filled;
      range = all_more (IsWithin 1000000000000000) cash place number (omega (arith, so_far.count)) (subst (IsWithin 1000000000000000) (sym same) gain.ensures.bound) so_far.range;
    }
