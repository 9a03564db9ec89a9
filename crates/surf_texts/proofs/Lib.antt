pub mod Filling
pub mod Rereading
pub mod TreeTextLaws
