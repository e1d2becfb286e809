use Rattle.std.proofs.Common.{◌≡◌, ◌+◌, ◌*◌, ◌^◌, pos, negsuc, ◌-ℤ◌, ◌≤ℤ◌, get_or, to_z, of_z, w32, w64, rules, inl, inr, subst, ◌∙◌, arith}
use Rattle.std.proofs.lemmas.Int.{ints}
use Rattle.std.proofs.lemmas.Bool.{cases_eq}
use Rattle.relaxation.specs.Tables.{dollars_at}
use Rattle.dual_bound.proofs.quotes.most.Goals as goal

pub loop-number-init : goal.loop-number-init
loop-number-init c =
    let table = c.args.left.now.dollars in
    let is : to_z w64 (of_z w64 c.margin-most.result) ≡ c.margin-most.result = omega (arith, ints, c.margin-most.ensures.low, c.margin-most.ensures.high) in
    let dollars = get_or table (393 * c.args.client) (pos 0) in
    let dollars_is : to_z w32 (of_z w32 dollars) ≡ dollars = search rules in
    let plain : c.margin-most.result ≡ dollars -ℤ pos (get_or c.args.costs.now 0 0) = rw dollars_is at c.margin-most.ensures.value in
    let at : 393 * c.args.client ≡ 393 * c.args.client + 0 = omega arith in
    let value = subst (λ place. c.margin-most.result ≡ get_or table place (pos 0) -ℤ pos (get_or c.args.costs.now 0 0)) at plain in
    rw is (record {
      bound = λ n lt.
          let n_is : n ≡ 0 = omega arith in
          rw n_is (omega (arith, ints, value));
      reached = (0, omega arith, value);
      low = c.margin-most.ensures.low;
      high = c.margin-most.ensures.high;
    })

pub loop-number-preserved : goal.loop-number-preserved
loop-number-preserved c =
    let table = c.args.left.now.dollars in
    let costs = c.args.costs.now in
    let client = c.args.client in
    let l = c.loop-number in
    let new = c.greater-most.result in
    let other_is : to_z w64 (of_z w64 c.margin-other.result) ≡ c.margin-other.result = omega (arith, ints, c.margin-other.ensures.low, c.margin-other.ensures.high) in
    let dollars = dollars_at table client l.number in
    let dollars_is : to_z w32 (of_z w32 dollars) ≡ dollars = search rules in
    let plain : c.margin-other.result ≡ dollars -ℤ pos (get_or costs l.number 0) = rw dollars_is at c.margin-other.ensures.value in
    let value : to_z w64 (of_z w64 c.margin-other.result) ≡ dollars -ℤ pos (get_or costs l.number 0) = other_is ∙ plain in
    let low : negsuc (2 ^ 33) ≤ℤ new = omega (arith, ints, c.greater-most.ensures.one, l.invariant.low) in
    let high : new ≤ℤ pos (2 ^ 33) = elim c.greater-most.ensures.value [
      | inl same ↦ omega (arith, ints, same, l.invariant.high)
      | inr same ↦ omega (arith, ints, same, other_is, c.margin-other.ensures.high)
    ] in
    let is : to_z w64 (of_z w64 new) ≡ new = omega (arith, ints, low, high) in
    rw is (record {
      bound = λ n lt. elim (cases_eq n l.number) [
        | inl same ↦ rw same (omega (arith, ints, value, c.greater-most.ensures.other))
        | inr apart ↦ omega (arith, ints, l.invariant.bound n (omega (arith, apart)), c.greater-most.ensures.one)
      ];
      reached = elim c.greater-most.ensures.value [
        | inl same ↦ (l.invariant.reached.0, l.invariant.reached.1, same ∙ l.invariant.reached.2)
        | inr same ↦ (l.number, omega arith, same ∙ value)
      ];
      low = low;
      high = high;
    })
