pub mod Tables
pub mod Signs
pub mod Ways
