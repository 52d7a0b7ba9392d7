pub mod CountLaws
pub mod PassLaws
pub mod FoundLaws
