pub mod Turned
pub mod Rows
pub mod Chosen
pub mod Fitting
