-- Gluing sides of polygons: what becomes of copies, labels and the rim.
pub mod Add
pub mod Gluing
pub mod Joins
pub mod Cotrees
pub mod Tree
pub mod Trim
pub mod TrimAll
pub mod Zip
pub mod Parts
pub mod RimWords
pub mod Rims
pub mod Rings
pub mod Rounds
pub mod Reaching
pub mod Rows
pub mod Labels
pub mod LabelLaws
