-- The lines of a mesh that is no disc.
use Rattle.std.specs.Prelude.{ℕ, List, [], ◌∷◌, codes, slice_index}
use Rattle.surf_disc.specs.declared.faults.BorderKind.TheVariants.{Nothing, Two}
use Rattle.surf_disc.specs.declared.faults.DiscFault.{DiscFault}
use Rattle.surf_disc.specs.declared.faults.DiscFault.TheVariants.{Crowded, Isolated, Pinched, Apart, Border, Count}
use Rattle.surf_disc.specs.declared.faults.DiscFault.TheVariants.{Memory}
use Rattle.surf_text.specs.Numbers.{numbered}

-- what is wrong. Want of memory is no answer
abbrev pub no_line : DiscFault → List ℕ
no_line (Crowded u v faces) =
    numbered (codes "no crowded") (u ∷ v ∷ slice_index faces 0 ∷ slice_index faces 1 ∷ slice_index faces 2 ∷ [])
no_line (Isolated v) = numbered (codes "no isolated") (v ∷ [])
no_line (Pinched v first second) = numbered (codes "no pinched") (v ∷ first ∷ second ∷ [])
no_line (Apart face) = numbered (codes "no apart") (face ∷ [])
no_line (Border Nothing) = codes "no border none\n"
no_line (Border (Two u v s t)) = numbered (codes "no border") (u ∷ v ∷ s ∷ t ∷ [])
no_line (Count vertices edges faces) = numbered (codes "no count") (vertices ∷ edges ∷ faces ∷ [])
no_line Memory = []
