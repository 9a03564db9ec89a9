pub mod Heads
pub mod Loops
