-- The faces of a surface, joined by their edges, are a graph.
use Rattle.surf_cotree.proofs.Common.{IsGraph, dual, Mesh, IsSurface, cells_of, surfaces_are_cells}

pub graph_is : (mesh : Mesh) → IsSurface mesh → IsGraph (dual (cells_of mesh))
graph_is mesh surface = (surfaces_are_cells mesh surface).complex.dual_ends
