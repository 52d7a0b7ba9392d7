pub mod StateLaws
pub mod InOrder
pub mod MeetLaws
pub mod WordArrays
pub mod PartLaws
pub mod BehindLaws
pub mod ExploreLaws
