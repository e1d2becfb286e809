-- The names of crates below that this crate cites, passed on from one place.
pub use Rattle.tac_base.specs.Bids.{fault_of, left_fault}
pub use Rattle.tac_base.specs.declared.bids.BidFault.{BidFault}
pub use Rattle.tac_base.specs.declared.bids.Point.{Point}
pub use Rattle.tac_base.specs.declared.calls.Board.{Board}
pub use Rattle.tac_base.specs.declared.calls.Reply.{Reply}
pub use Rattle.bid_strings.specs.BidForm.{judged, point_then, verdict}
pub use Rattle.bid_strings.specs.Spelling.{HasFiveDigits}
pub use Rattle.line_protocol.specs.Ranges.{IsSaid}
pub use Rattle.line_protocol.specs.Replies.{IsOneLine}
pub use Rattle.line_protocol.specs.RequestForms.{IsRequest}
pub use Rattle.line_protocol.specs.Requests.{read_good}
pub use Rattle.line_protocol.specs.declared.asking.Request.{Request}
pub use Rattle.line_protocol.specs.declared.asking.RequestFault.{RequestFault}
pub use Rattle.line_protocol.specs.declared.saying.Said.{Said}
