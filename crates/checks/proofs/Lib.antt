pub mod LawsAgain
