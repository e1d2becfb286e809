-- The names of crates below that this crate cites, passed on from one place.
pub use Rattle.tac_base.specs.Bids.{fault_of, first_fault, left_fault, point_fault, size_of}
unfoldable pub use Rattle.tac_base.specs.Numerals.{numeral, signed_numeral}
pub use Rattle.tac_base.specs.declared.bids.BidFault.{BidFault}
pub use Rattle.tac_base.specs.declared.bids.Point.{Point}
pub use Rattle.text_forms.specs.Words.{words_of}
