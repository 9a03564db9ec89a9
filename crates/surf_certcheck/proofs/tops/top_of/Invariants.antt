use Rattle.surf_treecheck.proofs.Common.{◌<◌, face_count, depth_at}
use Rattle.surf_certcheck.proofs.Common.{AreTops, IsClear}
use Rattle.surf_certcheck.proofs.tops.top_of.Given as goal

-- what was passed has no loop shorter than the limit
abbrev pub invariant-loop-tops : goal.invariant-loop-tops
invariant-loop-tops l = record {
  tops : AreTops l.judge l.limit l.tops;
  inside : l.at < face_count l.judge.mesh.now;
  clear : IsClear l.judge l.limit l.fn.face l.at;
}

abbrev pub decreases-loop-tops : goal.decreases-loop-tops
decreases-loop-tops l = depth_at l.judge.cert.now.dual l.at
