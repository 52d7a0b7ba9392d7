-- What a list of choices means.
pub mod Listing
