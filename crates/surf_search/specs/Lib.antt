pub mod Ahead
pub mod Degrees
pub mod Firsts
pub mod Kept
pub mod Places
pub mod Rounds
