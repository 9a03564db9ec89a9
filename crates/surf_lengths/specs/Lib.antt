pub mod Lengths
pub mod Lines
pub mod Plain
pub mod Files
pub mod Naming
pub mod Walks
