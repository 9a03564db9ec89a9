pub mod Tables
pub mod Searches
pub mod Peeling
pub mod Marking
pub mod Grown
