pub mod WordMachine
pub mod GoodStates
pub mod Decoding
