-- How many copies and cut edges there are.
pub mod Count
pub mod Counting
pub mod CutCounts
pub mod Sums
pub mod Places
pub mod Ranked
