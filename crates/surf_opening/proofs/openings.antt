-- Openings along a cut, and that they are discs.
pub mod BorderLaws
pub mod ChosenOpenings
pub mod DiscLaw
pub mod Exists
pub mod InOrder
pub mod Opened
pub mod OpeningLaw
pub mod Order
pub mod Slits
