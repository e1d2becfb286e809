pub mod AllTrue
pub mod Writing
pub mod RangedSheets
pub mod ShortLogs
