pub mod Greatest
pub mod DigitLaws
pub mod Quotients
pub mod EachLaws
pub mod Near
pub mod Fitting
pub mod Entries
pub mod Reread
