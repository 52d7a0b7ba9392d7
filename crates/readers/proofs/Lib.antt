pub mod LawsPairs
pub mod LawsParts
