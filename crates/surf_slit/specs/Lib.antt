pub mod Link
pub mod Labels
pub mod Place
pub mod Slit
