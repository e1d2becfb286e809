-- The names of crates below that this crate cites, passed on from one place.
pub use Rattle.tac_base.specs.Clients.{Preferences}
pub use Rattle.packages.specs.Features.{feature_of, values_of}
unfoldable pub use Rattle.packages.specs.Listing.{packages}
pub use Rattle.packages.specs.Packages.{IsPackage, utility_of}
pub use Rattle.packages.specs.declared.travel_packages.Package.{Package}
