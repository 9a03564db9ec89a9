use Rattle.std.proofs.Common.{◌≡◌, ◌<◌, ℕ, length}
use Rattle.surf_soup.specs.Forest.{Falls, HasRoots}
use Rattle.surf_soup.proofs.forest.root_of.Given as goal

abbrev pub invariant-loop-parents : goal.invariant-loop-parents
invariant-loop-parents l = record {
  falls : Falls l.parents;
  inside : l.number < length l.parents;
  same : (root : ℕ → ℕ) → HasRoots l.fn.parents root → HasRoots l.parents root × (root l.number ≡ root l.of);
}

abbrev pub decreases-loop-parents : goal.decreases-loop-parents
decreases-loop-parents l = l.number
