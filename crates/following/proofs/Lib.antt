pub mod LawsFollowing
pub mod FollowTree
pub mod NodeNumbers
