pub mod Trading
pub mod CashSteps
pub mod Taking
pub mod Matching
pub mod SamePosts
