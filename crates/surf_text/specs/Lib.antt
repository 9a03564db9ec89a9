pub mod Text
pub mod Walks
pub mod Pages
pub mod Pieces
pub mod Numbers
