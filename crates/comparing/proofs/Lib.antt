pub mod MarkLaws
pub mod LawsComparing
