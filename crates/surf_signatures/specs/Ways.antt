-- The signatures of ways up a tree of the vertices.
use Rattle.std.specs.Prelude.{ℕ}
use Rattle.surf_graphs.specs.Cells.{Split}
use Rattle.surf_graphs.specs.Independence.{signature_of}
use Rattle.surf_graphs.specs.Trees.{Tree, on_path}
use Rattle.surf_surfaces.specs.Cells.{cells_of}
use Rattle.surf_surfaces.specs.Mesh.{Mesh}

-- the signature of the edges on the way up from a vertex
abbrev pub way_class : Mesh → Split → Tree → ℕ → ℕ
way_class mesh d tree n = signature_of (cells_of mesh) d (on_path tree n)
