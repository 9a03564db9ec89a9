use Rattle.surf_surfaces.proofs.Common.{◌≡◌, ◌++◌, ◌<◌, map, get_or, face_count}
use Rattle.surf_orientation.specs.Chains.{links_up}
use Rattle.surf_check.specs.Links.{link_of}
use Rattle.surf_check.specs.Oriented.{tree_in}
use Rattle.surf_check.proofs.orienting.climb.Given as goal

-- what is done and what is left make up the chain
abbrev pub invariant-loop-at : goal.invariant-loop-at
invariant-loop-at l = record {
  face : l.at < face_count l.mesh;
  chain : map link_of l.chain.items ++ links_up l.mesh (tree_in l.tree) (get_or l.tree.rank.items l.at 0) l.at ≡ map
      link_of l.initial.chain.items ++ links_up l.mesh (tree_in l.tree) (get_or l.tree.rank.items l.fn.from 0)
      l.fn.from;
}

abbrev pub decreases-loop-at : goal.decreases-loop-at
decreases-loop-at l = get_or l.tree.rank.items l.at 0
