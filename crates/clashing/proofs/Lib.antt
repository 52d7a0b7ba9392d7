pub mod Times
pub mod ClashLaws
pub mod PassTurns
pub mod OneFolio
pub mod Telling
