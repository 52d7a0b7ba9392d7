pub mod LawsTargets
