-- The sides of polygons and of meshes.
pub mod Edges
pub mod MeshSides
pub mod Polygons
pub mod SideWords
