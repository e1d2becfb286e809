pub mod Duality
pub mod Law
pub mod Views
pub mod NodeCases
pub mod LeafLines
pub mod TreeTexts
pub mod RootCases
pub mod TreesAgain
