pub mod PlanParts
pub mod BlockWords
