use Rattle.std.proofs.Common.{◌*◌, ◌≡◌, ◌+◌, Some, is_some, true, false, pos, negsuc, ◌≤ℤ◌, sym, ap, ◌∙◌, arith, slice_get}
use Rattle.tac_base.specs.declared.limits.TheConstants.{DUAL_PRICE}
use Rattle.std.proofs.lemmas.Bool.{false≢true}
use Rattle.packages.specs.{packages, margin_of, greater}
use Rattle.packages.proofs.Decoded.{length-packages}
use Rattle.packages.proofs.Margins.{greatest_from, greatest_takes, greatest_skips, greatest_done, if_some_is}
use Rattle.packages.proofs.bounds.best_margin.Goals as goal
use Rattle.packages.proofs.bounds.best_margin.Goals.{in-Some+then-keeps, in-Some+else-keeps, in_default}

pub loop-n-preserved : goal.loop-n-preserved
loop-n-preserved g c =
    let left = g.N.Narrowing.left c.args.narrowing.now c.args.number in
    let margin = margin_of c.args.client.now c.args.prices.now in
    let l = c.loop-n in
    elim c.match-package.branch [
      | in-Some+then-keeps w ↦
          let choice = w.in-Some.choice in
          let found : slice_get packages l.n ≡ Some choice = sym c.package.ensures.value ∙ w.in-Some.is in
          let passes : left choice ≡ true = sym w.keeps.ensures ∙ w.if-keeps.true in
          let step = greatest_takes margin left packages l.n choice l.most found passes in
          let most_is = w.most-is ∙ w.raised-most.ensures.value in
          record {
            rest = ap (λ m. greater m (greatest_from margin left packages (l.n + 1))) most_is ∙ step ∙ l.invariant.rest;
            low = if_some_is (λ n. negsuc (9 * DUAL_PRICE) ≤ℤ n) _ _ w.most-is w.raised-most.ensures.low;
            high = if_some_is (λ n. n ≤ℤ pos 1750) _ _ w.most-is w.raised-most.ensures.high;
          }
      | in-Some+else-keeps w ↦
          let choice = w.in-Some.choice in
          let found : slice_get packages l.n ≡ Some choice = sym c.package.ensures.value ∙ w.in-Some.is in
          let fails : left choice ≡ false = sym w.keeps.ensures ∙ w.if-keeps.false in
          let step = greatest_skips margin left packages l.n choice found fails in
          record {
            rest = ap (λ m. greater m (greatest_from margin left packages (l.n + 1))) w.most-is ∙ ap (greater l.most) step ∙ l.invariant.rest;
            low = if_some_is (λ n. negsuc (9 * DUAL_PRICE) ≤ℤ n) _ _ w.most-is l.invariant.low;
            high = if_some_is (λ n. n ≤ℤ pos 1750) _ _ w.most-is l.invariant.high;
          }
      | in_default w ↦ absurd (false≢true (sym (ap is_some w.in_default.is) ∙ c.package.ensures.variant.1 c.loop-n-test.true))
    ]

pub returns-clause-value : goal.returns-clause-value
returns-clause-value g c =
    let left = g.N.Narrowing.left c.args.narrowing.now c.args.number in
    let margin = margin_of c.args.client.now c.args.prices.now in
    let l = c.loop-n in
    sym (greatest_done margin left packages l.n l.most (omega (arith, length-packages))) ∙ l.invariant.rest
