pub mod First
pub mod Cuts
mod Signs
pub mod Digits
mod Short
mod Counting
pub mod Plain
pub mod Words
mod Ahead
pub mod Spans
pub mod Writing
