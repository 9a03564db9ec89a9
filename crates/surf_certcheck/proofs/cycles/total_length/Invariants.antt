use Rattle.surf_surfaces.proofs.Common.{◌≡◌, ◌≤◌, ◌*◌, ◌^◌, map, sum, take, walk_length}
use Rattle.surf_certcheck.proofs.cycles.total_length.Given as goal

-- the cycles before
abbrev pub invariant-loop-place : goal.invariant-loop-place
invariant-loop-place l = record {
  total : l.total ≡ sum (map (walk_length l.case.mesh.now l.case.lengths.now) (take l.place l.case.cert.now.cycles));
  bound : l.total ≤ l.place * 2 ^ 96;
}
