pub mod Networks
pub mod Tables
pub mod Grown
pub mod Starts
pub mod Within
pub mod Kept
