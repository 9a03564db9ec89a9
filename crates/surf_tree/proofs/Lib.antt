pub mod Settling
pub mod Offering
pub mod Growing
pub mod LengthLaws
pub mod Choosing
pub mod MeshTrees
pub mod SearchWords
pub mod Queues
