-- What a walk means, on any words.
pub mod Starting
pub mod Stepping
pub mod ByIndex
pub mod Lent
