pub mod OneFolio
