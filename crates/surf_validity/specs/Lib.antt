pub mod Rows
pub mod Valid
pub mod Bases
pub mod Chosen
pub mod Laws
pub mod PlaceLaws
