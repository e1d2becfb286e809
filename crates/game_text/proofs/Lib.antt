pub mod Choices
pub mod FlightLaws
pub mod EndowmentLaws
pub mod OrderLaws
pub mod Versions
pub mod HotelNightLaws
pub mod ClientLaws
pub mod HeaderLaws
pub mod AgentLaws
pub mod Limits
pub mod AccountLaws
pub mod GameLaws
pub mod GameTexts
pub mod PrintedGames
mod AgentLineLaws
pub mod QuietRanges
