pub mod Descent
pub mod Fault
pub mod Growth
pub mod Kinds
pub mod Links
pub mod Oriented
pub mod Mated
