pub mod Views
pub mod OneObject
pub mod PrintedPoints
mod TextWords
mod ReadBack
mod PlainObjects
