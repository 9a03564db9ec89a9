pub mod Evidence
pub mod Faults
pub mod Shortest
pub mod Cover
pub mod CoverGraph
pub mod EvidenceLaws
pub mod ShortestLaws
pub mod SmallCases
