-- What binding a folio's file means.
pub mod Binding
