pub mod GoalWords
pub mod WordStages
pub mod Sharing
pub mod GoalKinds
