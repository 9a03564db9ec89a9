pub mod Fringe
pub mod Links
pub mod Near
pub mod Searching
