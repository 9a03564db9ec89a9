pub mod Based
pub mod Candidates
pub mod Certs
pub mod Cut
pub mod Cycles
pub mod Ends
pub mod Kept
