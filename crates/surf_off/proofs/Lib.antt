pub mod Corners
pub mod Repeats
pub mod Marks
pub mod VertexLines
pub mod FaceLines
pub mod CleanLines
pub mod CleanParts
pub mod FaceRows
mod Fronts
pub mod Decimals
pub mod NumberLines
pub mod Reread
pub mod RereadMesh
pub mod StartsOf
mod PlainLines
mod Places
mod ShortFaces
