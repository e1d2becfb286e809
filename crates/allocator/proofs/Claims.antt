-- What holds for a claim holds for a greater one.
use Rattle.std.proofs.Common.{◌≡◌, ℕ, ◌+◌, ◌≤◌, ℤ, true, Option, Some, None, eqb, refl, arith}
use Rattle.std.proofs.lemmas.Int.{ints}
use Rattle.std.proofs.lemmas.Bool.{and_parts, and_from}
use Rattle.allocator.specs.Prelude.{AccountFile, Narrowing, leaf_bound, narrowed, values_of, Tree, leaf, split, Trees, no_trees, more, tree_count, holds, all_hold, is_within}

within_more : (bound : Option ℤ) (a b : ℕ) → is_within bound a ≡ true → a ≤ b → is_within bound b ≡ true
within_more None a b h le = refl
within_more (Some n) a b h le = grind (arith, ints)

mutual
  pub holds_more : (account : AccountFile) (a b : ℕ) (left : Narrowing) (t : Tree) → holds account a left t ≡ true → a ≤ b → holds account b left t ≡ true
  holds_more account a b left (leaf prices) h le = within_more (leaf_bound account left prices) a b h le
  holds_more account a b left (split client feature trees) h le =
      let parts = and_parts (eqb (tree_count trees) (values_of feature)) (all_hold account a left client feature 0 trees) h in
      and_from (eqb (tree_count trees) (values_of feature)) (all_hold account b left client feature 0 trees) parts.0 (all_hold_more account a b left client feature 0 trees parts.1 le)

  pub all_hold_more : (account : AccountFile) (a b : ℕ) (left : Narrowing) (client feature value : ℕ) (ts : Trees) → all_hold account a left client feature value ts ≡ true → a ≤ b → all_hold account b left client feature value ts ≡ true
  all_hold_more account a b left client feature value no_trees h le = refl
  all_hold_more account a b left client feature value (more t ts) h le =
      let parts = and_parts (holds account a (narrowed left client feature value) t) (all_hold account a left client feature (value + 1) ts) h in
      and_from (holds account b (narrowed left client feature value) t) (all_hold account b left client feature (value + 1) ts) (holds_more account a b (narrowed left client feature value) t parts.0 le)
      (all_hold_more account a b left client feature (value + 1) ts parts.1 le)
