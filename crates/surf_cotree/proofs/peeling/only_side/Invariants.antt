use Rattle.surf_cotree.proofs.Common.{IfSome, range_with_len, side_count, ◌<◌, ◌≤◌, ◌-◌, map, link_at, side_link, outside}
use Rattle.surf_cotree.proofs.Leaves.{IsOnlySoFar}
use Rattle.surf_cotree.proofs.peeling.only_side.Given as goal

abbrev pub invariant-loop-s : goal.invariant-loop-s
invariant-loop-s l = record {
  from : l.start ≤ l.s;
  inside : IfSome l.found (λ s. s < side_count l.network.mesh.now);
  only : IsOnlySoFar (outside l.network.marks.now) (link_at (map (side_link l.network.mesh.now) (range_with_len l.start (l.end - l.start)))) (side_link l.network.mesh.now) (l.s - l.start) l.found;
}
