pub mod TableLaws
pub mod FeatureValues
pub mod SplitLaws
