-- Laws that every layer shares, each once.
pub mod Bools
pub mod Members
pub mod Pairwise
pub mod Options
pub mod Along
pub mod ListLaws
pub mod Places
pub mod Sums
pub mod Prefixes
pub mod Ordered
pub mod Codes
pub mod BitLaws
pub mod KindLaws
pub mod Refusals
pub mod ChainLaws
