pub mod LawsTables
