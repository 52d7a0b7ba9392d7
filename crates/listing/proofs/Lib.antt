-- What is known of a list of choices.
pub mod Turns
pub mod Singly
