use Rattle.std.proofs.Common.{false, int_le, ◌≡◌, ◌<◌, ◌≤ℤ◌, to_z, of_z, ◌∙◌, w64, arith, subst, sym, pos, ◌-ℤ◌, get_or, ℕ}
use Rattle.std.proofs.lemmas.Int.{ints}
use Rattle.relaxation.specs.Tables.{dollars_at}
use Rattle.dual_bound.proofs.CeilingLaws.{IsChosen, chosen_all, chosen_more, under_more}
use Rattle.dual_bound.proofs.quotes.Quote.holds.Goals as goal

pub loop-client-preserved : goal.loop-client-preserved
loop-client-preserved c =
    let self = c.args.self.now in
    let table = c.args.left.now.dollars in
    let k = c.loop-client.client in
    let most_is : to_z w64 (of_z w64 c.most.result) ≡ c.most.result = omega (arith, ints, c.most.ensures.low, c.most.ensures.high) in
    let sum_is : to_z w64 (of_z w64 c.added-bound.result) ≡ c.added-bound.result = omega (arith, ints, c.added-bound.ensures.low, c.added-bound.ensures.high) in
    let bound = subst (λ most. (n : ℕ) → n < 393 → (dollars_at table k n -ℤ pos (get_or self.costs n 0)) ≤ℤ most) (sym most_is) c.most.ensures.bound in
    record {
      under = λ account narrowing is_account stock ceiling.
          under_more account is_account narrowing self.prices self.costs table k _ _ _ (omega arith) self.costs_are ceiling bound (sum_is ∙ c.added-bound.ensures.value) (c.loop-client.invariant.under account narrowing is_account stock ceiling);
      chosen = chosen_more self.prices self.costs self.stock_value table k c.most.ensures.reached.0 _ _ _ c.most.ensures.reached.1 self.costs_are (most_is ∙ c.most.ensures.reached.2) (sum_is ∙ c.added-bound.ensures.value) c.loop-client.invariant.chosen;
      low = rw sum_is c.added-bound.ensures.low;
      high = rw sum_is c.added-bound.ensures.high;
    }

pub returns-clause-more : goal.returns-clause-more
returns-clause-more c = λ h.
    let l = c.loop-client in
    let claim_is : to_z w64 (of_z w64 c.from.result) ≡ pos c.args.claim = omega (arith, ints, c.from.ensures, c.ranges.claim.fits) in
    let chosen = subst (λ b. IsChosen c.args.self.now.prices c.args.self.now.stock_value c.args.left.now.dollars l.client b) l.bound-is l.invariant.chosen in
    chosen_all c.args.self.now.prices c.args.self.now.stock_value c.args.left.now.dollars l.client c.args.claim _ (omega arith) (subst (λ z. int_le l.bound z ≡ false) claim_is (subst (λ b. int_le b (to_z w64 (of_z w64 c.from.result)) ≡ false) l.bound-is h)) chosen
