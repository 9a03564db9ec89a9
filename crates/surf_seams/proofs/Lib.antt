pub mod Taking
pub mod Pieces
pub mod Openings
pub mod Ways
pub mod Enough
pub mod AtBase
pub mod Few
