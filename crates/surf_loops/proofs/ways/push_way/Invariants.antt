use Rattle.surf_surfaces.proofs.Common.{◌≡◌, ◌<◌, ◌++◌, ◌∷◌, slice_index, way_up}
use Rattle.surf_tree.specs.Tables.{tree_of}
use Rattle.surf_loops.proofs.ways.push_way.Given as goal

-- what is listed, with what is still to come, is the whole way
abbrev pub invariant-loop-parent : goal.invariant-loop-parent
invariant-loop-parent l = record {
  within : l.at < l.mesh.vertices;
  way : l.list.items ++ way_up (tree_of l.tree) (slice_index l.tree.distances l.at) l.at ≡ l.fn.list.items ++ l.fn.from ∷ way_up (tree_of l.tree) (slice_index l.tree.distances l.fn.from) l.fn.from;
}

abbrev pub decreases-loop-parent : goal.decreases-loop-parent
decreases-loop-parent l = slice_index l.tree.distances l.at
