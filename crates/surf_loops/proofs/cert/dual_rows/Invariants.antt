use Rattle.surf_surfaces.proofs.Common.{◌≡◌, map, range_with_len}
use Rattle.surf_cotree.specs.Tables.{cotree_of}
use Rattle.surf_validity.specs.Chosen.{side_in}
use Rattle.surf_loops.proofs.cert.dual_rows.Given as goal

-- the rows of the faces so far
abbrev pub invariant-loop-f : goal.invariant-loop-f
invariant-loop-f l = record {
  depths : l.depth.items ≡ map (cotree_of l.cotree).rank (range_with_len 0 l.f);
  sides : l.side.items ≡ map (side_in l.mesh (cotree_of l.cotree)) (range_with_len 0 l.f);
}
