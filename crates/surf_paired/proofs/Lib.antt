pub mod LeastWalks
pub mod VertexSheets
pub mod Rows
