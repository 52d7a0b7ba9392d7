-- What counting and the report mean.
pub mod Quoted
pub mod Paths
pub mod Text
pub mod Lines
