-- The loops of edges through a tree of the vertices.
use Rattle.std.specs.Prelude.{ℕ, ◌+◌, List, ◌∷◌, ◌++◌}
use Rattle.surf_graphs.specs.Loops.{way_down, way_up}
use Rattle.surf_graphs.specs.Trees.{Tree}
use Rattle.surf_surfaces.specs.Mesh.{Mesh}
use Rattle.surf_surfaces.specs.Surface.{ends}
use Rattle.surf_surfaces.specs.Walk.{edge_length}

-- the loop of the e-th edge: from the root down the tree to its lesser end, over it, and up the tree
-- from its greater end to the root. Ranks fall on the way up, so it has at most as many steps as the
-- rank
abbrev pub loop_walk : Mesh → Tree → ℕ → List ℕ
loop_walk mesh tree e =
    tree.root ∷ way_down tree (tree.rank (ends mesh e).0) (ends mesh e).0
    ++ ((ends mesh e).1 ∷ way_up tree (tree.rank (ends mesh e).1) (ends mesh e).1)

-- the distance of its lesser end, its own length and the distance of its greater end
abbrev pub loop_length : Mesh → List ℕ → Tree → ℕ → ℕ
loop_length mesh lengths tree e =
    tree.rank (ends mesh e).0 + edge_length lengths e + tree.rank (ends mesh e).1
