mod Filling
pub mod Dollars
