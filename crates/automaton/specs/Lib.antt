-- The paper's construction with document 01's choices.
pub mod Goals
pub mod Classes
pub mod Paper
pub mod Bare
pub mod Exploring
pub mod FinalBlocks
pub mod PlanWords
pub mod Walking
pub mod Parted
pub mod Progress
pub mod Examples
