-- Laws of meshes: counts, pairs, edges, faces, sides, and the cells of a surface.
pub mod CountLaws
pub mod PairLaws
pub mod EdgeLaws
pub mod FaceLaws
pub mod SideLaws
pub mod FanLaws
pub mod JoinedLaws
pub mod SurfaceLaws
pub mod CellLaws
pub mod RunLaws
pub mod OrientationLaws
pub mod EulerSums
pub mod SmallFaces
pub mod PillowLaws
pub mod DegreeLaws
