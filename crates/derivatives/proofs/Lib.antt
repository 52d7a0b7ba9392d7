pub mod AlongLaws
pub mod DeriveLaws
pub mod LiftLaws
pub mod SortLaws
pub mod OrderLaws
