pub mod Paired
pub mod Laws
