-- What opening a folio means, and the checks that later calls repeat.
pub mod Opening
pub mod Folio
pub mod Files
pub mod Holding
