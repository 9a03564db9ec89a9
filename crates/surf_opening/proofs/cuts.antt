-- Cuts: full, trimmed, and the one that is chosen.
pub mod Chosen
pub mod ChosenTrees
pub mod CutLists
pub mod Ends
pub mod FullCut
pub mod NamedEdges
pub mod NamedLaw
pub mod NamedPaths
pub mod PathLists
pub mod TwoLeaves
pub mod Sphere
pub mod OffTheCut
pub mod OffTheCutMarked
