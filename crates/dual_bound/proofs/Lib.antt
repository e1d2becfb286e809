pub mod ChoiceLaws
pub mod Greatest
pub mod CeilingLaws
pub mod RestrictionLaws
pub mod Reaching
