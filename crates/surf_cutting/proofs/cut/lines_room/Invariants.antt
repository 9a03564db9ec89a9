use Rattle.surf_surfaces.proofs.Common.{◌<◌, ◌^◌, ℕ, slice_index}
use Rattle.surf_cutting.proofs.cut.lines_room.Given as goal

-- the vertices that were read have 32 bits
abbrev pub invariant-loop-v : goal.invariant-loop-v
invariant-loop-v l = (k : ℕ) → k < l.v-index → slice_index l.origins k < 2 ^ 32
