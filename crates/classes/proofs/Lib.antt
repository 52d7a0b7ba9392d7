pub mod SameLaws
pub mod ClosureLaws
pub mod SquareLaws
pub mod ClassLaws
