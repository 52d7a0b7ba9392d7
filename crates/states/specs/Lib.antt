pub mod Meeting
pub mod Parting
