use Rattle.surf_finder.proofs.Common.{◌≡◌, ◌<◌, true, ◌∷◌, ◌++◌, slice_index, way_up, Tree, IsShortestTree, is_near}
use Rattle.surf_finder.proofs.walks.push_way.Given as goal

-- what is listed, with what is still to come, is the whole way
abbrev pub invariant-loop-at : goal.invariant-loop-at
invariant-loop-at l = record {
  within : l.at < l.mesh.vertices;
  near : is_near l.desk l.at ≡ true;
  way : (tree : Tree) → IsShortestTree l.mesh l.links.lengths l.desk.base tree →
      l.list.items ++ way_up tree (tree.rank l.at) l.at ≡ l.fn.list.items ++ l.fn.from ∷ way_up tree (tree.rank l.fn.from) l.fn.from;
}

abbrev pub decreases-loop-at : goal.decreases-loop-at
decreases-loop-at l = slice_index l.desk.distances l.at
