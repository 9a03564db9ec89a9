pub mod Firsts
pub mod Near
