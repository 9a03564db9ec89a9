pub mod Boundary
pub mod Copies
pub mod Faces
pub mod Kinds
pub mod Opened
pub mod Rims
pub mod Trimming
