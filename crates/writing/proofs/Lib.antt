pub mod SparedLaws
pub mod WriteLaws
