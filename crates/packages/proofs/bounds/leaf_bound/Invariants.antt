use Rattle.std.proofs.Common.{◌≡◌, ◌+◌, ◌*◌, ◌^◌, pos, negsuc, ◌≤ℤ◌, IfSome, drop}
use Rattle.packages.specs.Bounds.{plus, margins, leaf_bound}
use Rattle.packages.proofs.bounds.leaf_bound.Given as goal

abbrev pub invariant-loop-number : goal.invariant-loop-number
invariant-loop-number g l =
    let left = g.N.Narrowing.left l.narrowing in
    record {
      rest : plus l.bound (margins left l.prices l.number (drop l.number l.account.clients)) ≡ leaf_bound l.account left l.prices;
      low : IfSome l.bound (λ n. negsuc (2000000 * l.number) ≤ℤ n);
      high : IfSome l.bound (λ n. n ≤ℤ pos (2 ^ 53 + 2000 * l.number));
    }
