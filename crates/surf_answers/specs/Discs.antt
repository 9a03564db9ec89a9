-- Whether a mesh is a disc.
use Rattle.std.specs.Prelude.{◌≡◌, ◌⊎◌}
use Rattle.surf_surfaces.specs.Mesh.{Mesh}
use Rattle.surf_surfaces.specs.Disc.{IsDisc}
use Rattle.surf_disc.specs.Border.{border_count}
use Rattle.surf_disc.specs.Fault.{IsDiscFault}
use Rattle.surf_disc.specs.declared.faults.DiscFault.TheVariants.{Memory}
use Rattle.surf_texts.specs.CountLines.{count_line}
use Rattle.surf_texts.specs.DiscLines.{no_line}
use Rattle.surf_texts.specs.Faults.{TellsFault}
use Rattle.surf_texts.specs.Outcome.{Outcome, answers}

-- The mesh is no disc, for its first fault.
abbrev pub SaysNoDisc : Mesh → Outcome → Type 0
SaysNoDisc mesh = TellsFault Memory (IsDiscFault mesh) (λ fault. answers 1 (no_line fault))

-- The mesh is a disc with so many border sides; or it is none.
abbrev pub JudgesDisc : Mesh → Outcome → Type 0
JudgesDisc mesh outcome =
    (IsDisc mesh × (outcome ≡ answers 0 (count_line "disc\nborder " (border_count mesh)))) ⊎ SaysNoDisc mesh outcome
