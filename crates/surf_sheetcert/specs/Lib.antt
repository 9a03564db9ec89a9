pub mod Lines
pub mod Grammar
pub mod Written
pub mod Kinds
