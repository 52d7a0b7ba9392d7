-- What is known of terms, their words, and the one reader.
pub mod LawsReading
pub mod LawsSpans
pub mod WholeTerm
pub mod TermWhole
pub mod FirstFault
pub mod OneTerm
pub mod Sizes
pub mod Numbers
pub mod Subterms
pub mod MatchTest
pub mod Replacing
pub mod FaultPlaces
