pub mod Common
pub mod Covering
pub mod Signed
pub mod Grown
pub mod Stepping
pub mod Starts
pub mod Within
pub mod Distances
mod Passing
mod Through
mod Best
