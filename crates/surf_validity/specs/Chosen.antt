-- The certificates of the choice among ties: of the loops at a base, and of the basis.
use Rattle.std.specs.List.{range_with_len}
use Rattle.std.specs.Prelude.{ℕ, ◌==◌, if◌then◌else◌, List, map, Option, Some, None}
use Rattle.surf_graphs.specs.Trees.{Tree}
use Rattle.surf_surfaces.specs.Mesh.{Mesh}
use Rattle.surf_surfaces.specs.Surface.{face_count, ends}
use Rattle.surf_surfaces.specs.Cotree.{left_edges}
use Rattle.surf_surfaces.specs.Choice.{Trees, Loop, walks}
use Rattle.surf_validity.specs.Rows.{TreeRows, DualRows, LoopCert, BasisCert}

-- the parent of a vertex, which the root has not
abbrev pub parent_in : Tree → ℕ → Option ℕ
parent_in tree v = if v == tree.root then None else Some (tree.parent v)

-- the side of a face over which its parent lies, which the root has not
abbrev pub side_in : Mesh → Tree → ℕ → Option (ℕ × ℕ)
side_in mesh cotree f = if f == cotree.root then None else Some (ends mesh (cotree.up f))

-- the rows of a tree of vertices
abbrev pub rows_for : Mesh → Tree → TreeRows
rows_for mesh tree = record {
  base = tree.root;
  distance = map tree.rank (range_with_len 0 mesh.vertices);
  parent = map (parent_in tree) (range_with_len 0 mesh.vertices);
}

-- the rows of a tree of faces
abbrev pub dual_rows_of : Mesh → Tree → DualRows
dual_rows_of mesh cotree = record {
  depth = map cotree.rank (range_with_len 0 (face_count mesh));
  side = map (side_in mesh cotree) (range_with_len 0 (face_count mesh));
}

-- the certificate of two trees: their rows, and the edges in neither, increasing
abbrev pub chosen_cert : Mesh → Trees → LoopCert
chosen_cert mesh trees = record {
  tree = rows_for mesh trees.tree;
  dual = dual_rows_of mesh trees.cotree;
  left = map (ends mesh) (left_edges mesh trees.tree trees.cotree);
}

-- the certificate of a basis: the trees at all vertices, the tree of faces and the left edges at vertex 0, and the
-- walks
abbrev pub basis_cert_of : Mesh → (ℕ → Trees) → List Loop → BasisCert
basis_cert_of mesh trees basis = record {
  trees = map (λ x. rows_for mesh (trees x).tree) (range_with_len 0 mesh.vertices);
  dual = dual_rows_of mesh (trees 0).cotree;
  left = map (ends mesh) (left_edges mesh (trees 0).tree (trees 0).cotree);
  cycles = walks basis;
}
