pub mod Chosen
pub mod NoLater
pub mod FirstLoops
pub mod Parts
pub mod NearVertices
