pub mod Bytes
pub mod Sections
