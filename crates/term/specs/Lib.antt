-- Terms, their words, and the one reader.
pub mod Terms
pub mod Places
pub mod Replacing
pub mod Admitted
pub mod Reading
pub mod Faults
pub mod Spans
