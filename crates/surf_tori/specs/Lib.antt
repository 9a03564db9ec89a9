pub mod Coherent
pub mod Torus
pub mod ConnectedSum
pub mod Chain
