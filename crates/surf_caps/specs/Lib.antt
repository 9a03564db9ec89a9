pub mod Heights
pub mod Caps
pub mod Quotients
pub mod Stages
pub mod Barred
pub mod Used
