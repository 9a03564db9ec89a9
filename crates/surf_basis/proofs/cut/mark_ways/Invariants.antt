use Rattle.surf_basis.proofs.Common.{tree_of, ◌≡◌, length, is_marked}
use Rattle.surf_basis.proofs.OnCut.{AreMarkedSoFar}
use Rattle.surf_basis.proofs.cut.mark_ways.Given as goal

abbrev pub invariant-loop-e : goal.invariant-loop-e
invariant-loop-e l = record {
  count : length l.marked ≡ l.mesh.vertices;
  ways : AreMarkedSoFar l.mesh (tree_of l.tree) l.edges l.e-index (is_marked l.fn.marked) (is_marked l.marked);
}
