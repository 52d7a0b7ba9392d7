-- What is known of opening and of the checks that later calls repeat.
pub mod LawsOpening
pub mod Symbols
pub mod ShapesFound
pub mod ScoreWhole
pub mod Accepted
pub mod GoodTables
pub mod Subtrees
pub mod EveryFolio
