-- What a report's first line is made of.
pub mod Totalled
