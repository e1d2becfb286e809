use Rattle.std.proofs.Common.{◌≡◌, ◌+◌, ◌*◌, ◌^◌, pos, negsuc, ◌≤ℤ◌, drop}
use Rattle.dual_bound.specs.{AccountFile, IsAccount, Narrowing, stock_value, margins, leaf_bound, IsCeiling}
use Rattle.dual_bound.proofs.CeilingLaws.{IsChosen, IsUnder}
use Rattle.dual_bound.proofs.quotes.Quote.holds.Given as goal

abbrev pub invariant-loop-client : goal.invariant-loop-client
invariant-loop-client l = record {
  under : (account : AccountFile) (narrowing : Narrowing) → IsAccount account → l.self.stock_value ≡ stock_value account.holdings l.self.prices → IsCeiling account narrowing l.left.dollars
      → IsUnder (leaf_bound account narrowing l.self.prices) l.bound (margins narrowing l.self.prices l.client (drop l.client account.clients));
  chosen : IsChosen l.self.prices l.self.stock_value l.left.dollars l.client l.bound;
  low : negsuc (2 ^ 34 * l.client) ≤ℤ l.bound;
  high : l.bound ≤ℤ pos (2 ^ 53 + 2 ^ 34 * l.client);
}
