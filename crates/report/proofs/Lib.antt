pub mod PathLaws
pub mod FollowPath
pub mod DigitLaws
pub mod TextLaws
