pub mod Off
pub mod Rounds
pub mod Searches
pub mod Needs
pub mod Laws
