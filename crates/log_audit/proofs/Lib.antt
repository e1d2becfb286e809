pub mod Positions
pub mod Fairness
mod TrueReadings
mod Sums
mod Marks
mod Seated
mod Struck
mod Scheduled
mod Naming
mod Opened
mod Earned
mod Unfair
mod Totals
mod Stored
mod Codes
mod EqualTrades
mod Matching
mod Soundness
mod Parting
