use Rattle.surf_treecheck.proofs.Common.{◌<◌, ◌+◌, face_count, dual_tree, depth_at}
use Rattle.surf_certcheck.proofs.Common.{IsShortFor}
use Rattle.surf_certcheck.proofs.LeastIn.{IsLeastPassed}
use Rattle.surf_certcheck.proofs.heavier.Judge.least_between.Given as goal

-- the least so far of the edges that are passed
abbrev pub invariant-loop-near : goal.invariant-loop-near
invariant-loop-near l = record {
  near_in : l.near < face_count l.self.mesh.now;
  far_in : l.far < face_count l.self.mesh.now;
  passed : IsLeastPassed (IsShortFor l.self l.limit) (dual_tree l.self.mesh.now l.self.cert.now.dual)
      l.fn.ends.0 l.fn.ends.1 l.near l.far l.least;
}

abbrev pub decreases-loop-near : goal.decreases-loop-near
decreases-loop-near l = depth_at l.self.cert.now.dual l.near + depth_at l.self.cert.now.dual l.far
