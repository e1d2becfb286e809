pub mod Prelude
pub mod Choices
pub mod Settled
pub mod Ceilings
pub mod Restrictions
pub use Rattle.dual_bound.specs.Ceilings.{AreCosts, BoundsWorths, HasMore, IsCeiling, margins_at}
pub use Rattle.dual_bound.specs.Choices.{IsChoice, chosen, fits, fixed_count, with_fixed}
unfoldable pub use Rattle.dual_bound.specs.Choices.{has_fixed}
pub use Rattle.dual_bound.specs.Prelude.{AccountFile, GOODS, HasWorths, IsAccount, IsFeasible, IsLeft, IsNarrowed, IsPackage, KeepsOthers, Narrowing, Package, Preferences, all_left, best_margin, cost_of, dollars_at, feature_of, fixed_at, greater, greatest, is_package, is_within, leaf_bound, margin_of, margins, narrowed, plus, stock_value, total_of, utility_of, values_of}
unfoldable pub use Rattle.dual_bound.specs.Prelude.{packages}
pub use Rattle.dual_bound.specs.Restrictions.{IsNarrowedBy, IsRestricted, KeepsLeft}
