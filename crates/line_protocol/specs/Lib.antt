pub mod Prelude
pub mod Requests
pub mod RequestForms
pub mod Replies
pub mod Ranges
pub mod ReplyForms
pub mod Heads
