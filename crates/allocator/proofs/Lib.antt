pub mod FullLeaves
pub mod Claims
pub mod Growing
pub mod AtHome
pub mod ChoiceStart
