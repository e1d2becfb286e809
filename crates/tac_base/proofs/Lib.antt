pub mod Faults
pub mod NumeralLaws
pub mod Signed
pub mod EqualPoints
pub mod Agents
