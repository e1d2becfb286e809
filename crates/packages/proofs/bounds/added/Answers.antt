use Rattle.std.proofs.Common.{◌≡◌, Some, ◌+ℤ◌, ap, arith}
use Rattle.std.proofs.lemmas.Int.{ints}
use Rattle.packages.proofs.bounds.added.Goals as goal

pub overflow_add-result : goal.overflow_add-result
overflow_add-result c =
    let w = c.in-Some-Some in
    omega (arith, ints, c.requires.low w.sum w.is-0, c.requires.high w.sum w.is-0, c.requires.other_low w.more w.is-1, c.requires.other_high w.more w.is-1)

pub returns-in-Some-Some-clause-value : goal.returns-in-Some-Some-clause-value
returns-in-Some-Some-clause-value c =
    let w = c.in-Some-Some in
    let sum : Some _ ≡ Some (w.sum +ℤ w.more) = ap Some (omega (arith, ints, c.requires.low w.sum w.is-0, c.requires.high w.sum w.is-0, c.requires.other_low w.more w.is-1, c.requires.other_high w.more w.is-1)) in
    rw (w.is-0, w.is-1) sum

pub returns-in-Some-Some-clause-low : goal.returns-in-Some-Some-clause-low
returns-in-Some-Some-clause-low c =
    let w = c.in-Some-Some in
    omega (arith, ints, c.requires.low w.sum w.is-0, c.requires.high w.sum w.is-0, c.requires.other_low w.more w.is-1, c.requires.other_high w.more w.is-1)

pub returns-in-Some-Some-clause-high : goal.returns-in-Some-Some-clause-high
returns-in-Some-Some-clause-high c =
    let w = c.in-Some-Some in
    omega (arith, ints, c.requires.low w.sum w.is-0, c.requires.high w.sum w.is-0, c.requires.other_low w.more w.is-1, c.requires.other_high w.more w.is-1)
