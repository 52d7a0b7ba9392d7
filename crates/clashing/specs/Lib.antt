pub mod Clashes
pub mod Strays
pub mod Clashing
pub mod Passes
