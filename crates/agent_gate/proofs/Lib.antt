pub mod Making
pub mod LawfulTurns
pub mod TurnEnds
pub mod DeskTurns
pub mod WholeTexts
pub mod UnderWay
pub mod Greeting
pub mod SameEnds
