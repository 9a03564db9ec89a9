pub mod Through
pub mod Laws
