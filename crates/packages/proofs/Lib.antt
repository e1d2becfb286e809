pub mod Decoded
pub mod Found
pub mod Sums
pub mod Trips
pub mod Margins
pub mod PriceLists
