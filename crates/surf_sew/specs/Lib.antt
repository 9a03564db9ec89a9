pub mod Copies
pub mod Sewing
pub mod Texts
pub mod Laws
