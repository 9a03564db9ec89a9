use Rattle.surf_surfaces.proofs.Common.{◌≡◌, ◌≤◌, take, length, eqb, count_by}
use Rattle.surf_disc.proofs.border.count_single.Given as goal

abbrev pub invariant-loop-e : goal.invariant-loop-e
invariant-loop-e l = record {
  count : l.count ≡ count_by (λ row. eqb (length row) 1) (take l.e l.sides);
  few : l.count ≤ l.e;
}
