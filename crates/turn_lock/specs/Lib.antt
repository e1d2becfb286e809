pub mod Part
pub mod BoardWord
pub mod Notes
pub mod TurnRule
pub mod Steps
pub mod Turn
pub mod Passes
pub use Rattle.turn_lock.specs.Steps.{AddsEntry, PublishesBoard, Took, at_turn, drew, fresh_pass, looked, next_pass, noted, peeked, returned_from, ticketed, turned, with_pass, with_returned}
pub use Rattle.turn_lock.specs.TurnRule.{AreKnown, IsReturned, IsShelved, Knows, Turning, own_at_first, own_view, spent}
