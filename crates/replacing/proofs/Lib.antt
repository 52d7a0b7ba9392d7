pub mod LawsLinks
pub mod LawsAdding
pub mod LawsPutting
pub mod LinkTrees
pub mod FinishedTree
pub mod ResultTree
pub mod PutTree
