pub mod Buckets
pub mod Circles
pub mod Lent
pub mod Nodes
