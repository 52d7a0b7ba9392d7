pub mod Counting
pub mod Passing
