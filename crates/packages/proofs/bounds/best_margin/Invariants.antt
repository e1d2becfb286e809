use Rattle.std.proofs.Common.{◌*◌, ◌≡◌, pos, negsuc, ◌≤ℤ◌, IfSome}
use Rattle.tac_base.specs.declared.limits.TheConstants.{DUAL_PRICE}
use Rattle.packages.specs.{packages, best_margin, greater, margin_of}
use Rattle.packages.proofs.Margins.{greatest_from}
use Rattle.packages.proofs.bounds.best_margin.Given as goal

abbrev pub invariant-loop-n : goal.invariant-loop-n
invariant-loop-n g l =
    let left = g.N.Narrowing.left l.narrowing l.number in
    let margin = margin_of l.client l.prices in
    record {
      rest : greater l.most (greatest_from margin left packages l.n) ≡ best_margin l.client l.prices left;
      low : IfSome l.most (λ n. negsuc (9 * DUAL_PRICE) ≤ℤ n);
      high : IfSome l.most (λ n. n ≤ℤ pos 1750);
    }
