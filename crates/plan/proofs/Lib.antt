pub mod ReadyTables
pub mod BuildLaws
