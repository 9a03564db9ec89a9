pub mod Common
pub mod Runs
pub mod Fans
pub mod Turned
pub mod Steps
pub mod VertexLabels
