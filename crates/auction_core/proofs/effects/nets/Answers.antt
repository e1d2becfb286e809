use Rattle.std.proofs.Common.{◌≡◌, ℕ, ◌≢◌, ℤ, pos, get_or, set, length-set, below_more, sym, ap, ◌∙◌, arith, to_z, of_z, w32, get_or-set_same, get_or-set_other}
use Rattle.std.proofs.lemmas.Int.{ints}
use Rattle.trade_ledger.proofs.Trading.{nine_numbers}
use Rattle.auction_rules.specs.Effects.{dollars}
use Rattle.auction_core.proofs.effects.nets.Goals as goal

pub loop-number-preserved : goal.loop-number-preserved
loop-number-preserved c =
    let held = c.loop-number.dollars in let number : ℕ = c.loop-number.number in let place : ℕ = c.from.result in
    let value : ℤ = to_z w32 (of_z w32 c.net.result) in
    let same : value ≡ c.net.result = omega (arith, ints, c.net.type_inv) in
    record {
      nine = length-set held place value ∙ c.loop-number.invariant.nine;
      each = below_more _ _
          (λ k lt. let other : k ≢ place = λ e. absurd (omega (arith, c.from.ensures)) in get_or-set_other held place k value (pos 0) other ∙ c.loop-number.invariant.each k lt)
          (ap (λ (k : ℕ). get_or (set held place value) k (pos 0)) (sym c.from.ensures)
          ∙ (get_or-set_same held place value (pos 0) (omega (arith, c.from.ensures, c.loop-number.invariant.nine, c.loop-number-test.true)) ∙ (same ∙ c.net.ensures)));
    }

pub returns : goal.returns
returns c = nine_numbers (dollars c.args.trades.now) c.loop-number.dollars c.loop-number.invariant.nine (λ party lt. c.loop-number.invariant.each party (omega (arith, c.loop-number-test.false)))
