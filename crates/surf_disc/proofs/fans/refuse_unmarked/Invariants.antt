use Rattle.surf_surfaces.proofs.Common.{◌<◌, ℕ, HasOneFan}
use Rattle.surf_disc.proofs.fans.refuse_unmarked.Given as goal

abbrev pub invariant-loop-v : goal.invariant-loop-v
invariant-loop-v l = (u : ℕ) → u < l.v → HasOneFan l.corners.soup.now u
