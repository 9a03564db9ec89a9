-- A candidate as a loop that was found.
use Rattle.surf_surfaces.proofs.Common.{ℕ, Mesh, Tree, Found, loop_walk}
use Rattle.surf_choice.specs.declared.candidate.Signed.{Signed}

abbrev pub found_of : Mesh → (ℕ → Tree) → Signed → Found
found_of mesh trees c = record {
  size = c.candidate.length;
  through = c.candidate.base;
  walk = loop_walk mesh (trees c.from) c.candidate.edge;
}
