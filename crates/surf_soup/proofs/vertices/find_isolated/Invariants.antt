use Rattle.surf_surfaces.proofs.Common.{◌<◌, ℕ, HasCorner}
use Rattle.surf_soup.proofs.vertices.find_isolated.Given as goal

abbrev pub invariant-loop-v : goal.invariant-loop-v
invariant-loop-v l = (u : ℕ) → u < l.v → (f : ℕ) × HasCorner l.soup f u
