mod Rest
mod Walking
mod Lawful
mod Easier
mod Leading
mod Determined
mod Posting
mod Found
mod Steps
mod Cuts
mod Courses
mod Walked
mod CourseWalks
mod Welcomes
mod Transcribed
mod Prefixes
mod Vouched
pub mod OneLines
mod Sent
pub mod FarEnds
pub mod FreshLinks
mod MemoryReplies
mod Accounted
mod Judged
mod FirstDifferences
mod Quitting
