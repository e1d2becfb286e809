-- The names of crates below that this crate cites, passed on from one place.
pub use Rattle.tac_base.specs.Clients.{Preferences}
pub use Rattle.tac_base.specs.declared.limits.TheConstants.{BEST_TOTAL, CERTIFICATE_DEPTH, DUAL_PRICE}
pub use Rattle.text_forms.specs.Lines.{text_of}
pub use Rattle.game_text.specs.Accounts.{AccountFile, IsAccount}
pub use Rattle.packages.specs.BestTotal.{IsBest, IsFeasible, total_of, used_by}
pub use Rattle.packages.specs.Bounds.{Narrowing, best_margin, cost_of, greatest, leaf_bound, margin_of, margins, plus, stock_value}
unfoldable pub use Rattle.packages.specs.Bounds.{sum_below}
pub use Rattle.packages.specs.Features.{feature_of, narrowed, rank_of, values_of}
unfoldable pub use Rattle.packages.specs.Listing.{packages}
pub use Rattle.packages.specs.Packages.{IsPackage, is_package, utility_of}
pub use Rattle.packages.specs.Prices.{ArePrices}
pub use Rattle.packages.specs.Stocks.{stock_of}
pub use Rattle.packages.specs.declared.travel_packages.Package.{Package}
pub use Rattle.bound_cert.specs.Certificate.{all_hold, all_left, holds, is_within}
pub use Rattle.bound_cert.specs.Texts.{tree_lines}
pub use Rattle.bound_cert.specs.Trees.{Tree, Trees, are_prices, are_trees, is_tree, leaf, more, no_trees, split, tree_count}
pub use Rattle.bound_cert.specs.Views.{forest_of, tree_of}
pub use Rattle.relaxation.specs.Splits.{IsFull, fixed_at}
pub use Rattle.dual_bound.specs.Ceilings.{IsCeiling}
pub use Rattle.dual_bound.specs.Choices.{IsChoice, chosen, fits, fixed_count, nothing_fixed}
unfoldable pub use Rattle.dual_bound.specs.Choices.{has_fixed}
