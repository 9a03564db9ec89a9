use Rattle.surf_surfaces.proofs.Common.{◌≡◌, ◌<◌, [], map, get_or, reverse, face_count}
use Rattle.surf_orientation.specs.Chains.{links_down}
use Rattle.surf_check.specs.Links.{link_of}
use Rattle.surf_check.specs.Oriented.{tree_in}
use Rattle.surf_check.proofs.orienting.descend.Given as goal

-- what is left leads down to what is done
abbrev pub invariant-loop-at : goal.invariant-loop-at
invariant-loop-at l = record {
  face : l.at < face_count l.mesh;
  chain : links_down l.mesh (tree_in l.tree) (get_or l.tree.rank.items l.at 0) l.at
      (map link_of (reverse l.chain.items)) ≡ links_down l.mesh (tree_in l.tree) (get_or l.tree.rank.items l.fn.to 0)
      l.fn.to [];
}

abbrev pub decreases-loop-at : goal.decreases-loop-at
decreases-loop-at l = get_or l.tree.rank.items l.at 0
