-- What is known of a walk over words.
pub mod LawsLent
pub mod LawsStart
pub mod LawsStep
pub mod LawsOnward
pub mod LawsRun
