pub mod Prelude
pub mod JsonRequests
pub mod JsonReplies
pub mod JsonObjects
