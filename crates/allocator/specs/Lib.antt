pub mod Prelude
pub mod Scarcity
pub mod Searching
pub mod SolvedTexts
pub mod Solutions
pub use Rattle.allocator.specs.Prelude.{AccountFile, ArePrices, BEST_TOTAL, CERTIFICATE_DEPTH, IsAccount, IsBest, IsCeiling, IsChoice, IsFeasible, IsFull, IsPackage, Narrowing, Package, Preferences, Tree, Trees, all_hold, all_left, are_prices, are_trees, best_margin, chosen, cost_of, feature_of, fits, fixed_at, fixed_count, forest_of, greatest, holds, is_package, is_tree, is_within, leaf, leaf_bound, margin_of, margins, more, narrowed, no_trees, nothing_fixed, plus, rank_of, split, stock_of, stock_value, text_of, total_of, tree_count, tree_lines, tree_of, used_by, utility_of, values_of}
unfoldable pub use Rattle.allocator.specs.Prelude.{has_fixed, packages, sum_below}
pub use Rattle.allocator.specs.Searching.{ArePackagesLeft, IsOut, IsReached}
