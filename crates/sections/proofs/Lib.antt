pub mod LawsBytes
pub mod LawsSections
