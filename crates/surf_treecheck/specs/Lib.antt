pub mod First
pub mod Between
pub mod Rows
pub mod Shapes
pub mod TreeFaults
pub mod Split
pub mod Paths
