-- The definitions that every layer shares.
pub mod Limits
pub mod Lists
pub mod Members
pub mod Positions
pub mod Bits
pub mod Reasons
pub mod Kinds
pub mod Chains
