-- The names of crates below that this crate cites, passed on from one place.
pub use Rattle.tac_base.specs.Bids.{fault_of, left_fault}
unfoldable pub use Rattle.tac_base.specs.Numerals.{numeral, signed_numeral}
pub use Rattle.tac_base.specs.Ranges.{IsReply}
pub use Rattle.tac_base.specs.declared.bids.BidFault.{BidFault}
pub use Rattle.tac_base.specs.declared.bids.Point.{Point}
pub use Rattle.tac_base.specs.declared.calls.Board.{Board}
pub use Rattle.tac_base.specs.declared.calls.Reply.{Reply}
pub use Rattle.tac_base.specs.declared.calls.Reply.TheVariants.{BelowQuote, Closed, Done, NoBid, Own, SelfCross, Sell, Sold, Taken, WrongCall}
pub use Rattle.tac_base.specs.declared.limits.TheConstants.{CASH_DIGITS, POSITION, SHOWN_HOLDING, SHOWN_PRICE}
pub use Rattle.text_forms.specs.Steps.{◌>>=◌}
pub use Rattle.text_forms.specs.Words.{words_of}
pub use Rattle.bid_strings.specs.BidForm.{judged, verdict}
unfoldable pub use Rattle.bid_strings.specs.BidForm.{points_of}
pub use Rattle.bid_strings.specs.Spelling.{point_words, spelling}
