pub mod Fronts
pub mod Laws
pub mod PointWords
pub mod PrintedPoints
