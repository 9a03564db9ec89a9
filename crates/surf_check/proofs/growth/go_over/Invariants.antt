use Rattle.surf_surfaces.proofs.Common.{ℕ, ◌<◌, ◌≤◌, first_side}
use Rattle.surf_check.specs.Growth.{TreeGrows, TreeGrowsOn, IsCrossed}
use Rattle.surf_check.proofs.growth.go_over.Given as goal

abbrev pub invariant-loop-s : goal.invariant-loop-s
invariant-loop-s l = record {
  grows : TreeGrows l.mesh l.tree;
  on : TreeGrowsOn l.fn.tree l.tree;
  from : first_side l.mesh l.fn.face ≤ l.s;
  crossed : (j : ℕ) → first_side l.mesh l.fn.face ≤ j → j < l.s → IsCrossed l.mesh l.tree.seen.items j;
}
