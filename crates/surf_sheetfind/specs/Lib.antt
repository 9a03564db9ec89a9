pub mod Pairs
pub mod Listed
pub mod Sets
pub mod Certs
