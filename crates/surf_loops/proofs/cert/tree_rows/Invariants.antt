use Rattle.surf_surfaces.proofs.Common.{◌≡◌, map, range_with_len}
use Rattle.surf_tree.specs.Tables.{tree_of}
use Rattle.surf_validity.specs.Chosen.{parent_in}
use Rattle.surf_loops.proofs.cert.tree_rows.Given as goal

-- the rows of the vertices so far
abbrev pub invariant-loop-v : goal.invariant-loop-v
invariant-loop-v l = record {
  distances : l.distance.items ≡ map (tree_of l.tree).rank (range_with_len 0 l.v);
  parents : l.parent.items ≡ map (parent_in (tree_of l.tree)) (range_with_len 0 l.v);
}
