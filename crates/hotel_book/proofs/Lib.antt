pub mod Offers
pub mod Sorting
pub mod Winners
pub mod Bids
pub mod Keeping
pub mod Showing
pub mod Owning
pub mod Selling
