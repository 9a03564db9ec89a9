-- Laws of walks: on a mesh and on its graph, shortest ones, and what closed ones are.
pub mod WalkLaws
pub mod GraphWalkLaws
pub mod EvenLaws
pub mod FaceWalkLaws
pub mod CycleLaws
pub mod LoopWalkLaws
pub mod ShortestTreeLaws
pub mod ShortestWalkLaws
pub mod NearTreeLaws
pub mod OnTheWayLaws
pub mod SignedEndsLaws
