pub mod Ranges
pub mod Gains
pub mod Totals
pub mod Lines
