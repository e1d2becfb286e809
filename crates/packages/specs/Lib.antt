pub mod Goods
pub mod Packages
pub mod Listing
pub mod Decoding
pub mod Prices
pub mod Stocks
pub mod BestTotal
pub mod Bounds
pub mod Features
pub mod Costs
pub use Rattle.packages.specs.Bounds.{Narrowing, best_margin, cost_of, greater, leaf_bound, margin_of, margins, plus}
unfoldable pub use Rattle.packages.specs.Bounds.{sum_below}
pub use Rattle.packages.specs.Listing.{night_of}
unfoldable pub use Rattle.packages.specs.Listing.{packages}
pub use Rattle.packages.specs.Packages.{IsPackage, fun_of, is_in_stay, is_night, is_package, one_if, use_of, utility_of}
