pub mod Candidates
pub mod Echelons
pub mod Places
