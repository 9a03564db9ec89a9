pub mod EdgeNames
pub mod Naming
mod PlainLines
pub mod Positive
