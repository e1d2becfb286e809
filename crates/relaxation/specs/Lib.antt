pub mod Prelude
pub mod Tables
pub mod Splits
pub use Rattle.relaxation.specs.Prelude.{IsPackage, Package, Preferences, feature_of, utility_of, values_of}
unfoldable pub use Rattle.relaxation.specs.Prelude.{packages}
pub use Rattle.relaxation.specs.Tables.{AreEntries, HasWorths, IsNarrowed, IsNarrowedSomewhere, IsPut, dollars_at, features_of}
