-- The names of crates below that this crate cites, passed on from one place.
pub use Rattle.tac_base.specs.Clients.{Preferences}
pub use Rattle.tac_base.specs.declared.limits.TheConstants.{DUAL_PRICE, GOODS}
pub use Rattle.game_text.specs.Accounts.{AccountFile, IsAccount}
pub use Rattle.packages.specs.BestTotal.{IsFeasible, total_of}
pub use Rattle.packages.specs.Bounds.{Narrowing, best_margin, cost_of, greater, greatest, leaf_bound, margin_of, margins, plus, stock_value}
pub use Rattle.packages.specs.Features.{feature_of, narrowed, values_of}
unfoldable pub use Rattle.packages.specs.Listing.{packages}
pub use Rattle.packages.specs.Packages.{IsPackage, is_package, utility_of}
pub use Rattle.packages.specs.declared.travel_packages.Package.{Package}
pub use Rattle.bound_cert.specs.Certificate.{IsLeft, all_left, is_within}
pub use Rattle.relaxation.specs.Splits.{fixed_at}
pub use Rattle.relaxation.specs.Tables.{AreEntries, HasWorths, IsNarrowed, KeepsOthers, dollars_at}
