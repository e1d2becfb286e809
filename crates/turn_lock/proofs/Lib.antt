pub mod Places
pub mod Parts
pub mod Words
pub mod TurnSteps
pub mod PutAway
