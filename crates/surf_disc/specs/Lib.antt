pub mod Across
pub mod Links
pub mod Border
pub mod Fault
