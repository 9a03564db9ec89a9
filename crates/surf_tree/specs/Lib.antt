pub mod Tables
pub mod Searches
pub mod Queues
pub mod Grown
