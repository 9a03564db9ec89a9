pub mod Rows
pub mod Sheets
pub mod Placed
pub mod Laws
