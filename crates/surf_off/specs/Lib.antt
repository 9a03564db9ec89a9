pub mod Keywords
pub mod Off
pub mod Gives
pub mod Clean
pub mod Seen
pub mod Places
pub mod Written
pub mod Plain
