pub mod Links
pub mod Putting
pub mod Adding
