-- Sewing: the mesh before the cut.
use Rattle.std.specs.Prelude.{◌≡◌, ◌⊎◌, ℕ, List, Result}
use Rattle.surf_surfaces.specs.Disc.{IsDisc}
use Rattle.surf_surfaces.specs.Mesh.{Mesh}
use Rattle.surf_off.specs.Off.{OffParts}
use Rattle.surf_sew.specs.Copies.{copies_in}
use Rattle.surf_sew.specs.Sewing.{sewn_of}
use Rattle.surf_texts.specs.Outcome.{Outcome}
use Rattle.surf_texts.specs.SewingLines.{copy_cause, sew_cause}
use Rattle.surf_answers.specs.Discs.{SaysNoDisc}
use Rattle.surf_answers.specs.Sewing.{GivesSewn}
use Rattle.surf_answers.specs.Reading.{IsSurfaceOf}
use Rattle.surf_texts.specs.Cause.{refused_by}
use Rattle.surf_answers.specs.Steps.{Ends}

-- The copy lines of a text name the origins of so many copies.
abbrev pub HasOrigins : List ℕ → ℕ → Result (List ℕ) Outcome → Type 0
HasOrigins bytes vertices result = result ≡ refused_by (copy_cause vertices) (copies_in bytes vertices)

-- Copies of one vertex become that vertex again.
abbrev pub IsSewn : OffParts × Mesh → List ℕ → Result Mesh Outcome → Type 0
IsSewn read origins result = result ≡ refused_by sew_cause (sewn_of read.0.vertex_lines read.1 origins)

-- The mesh of copies isn't a disc; or it is, and what was sewn is a surface, or has a fault.
abbrev pub OnSewnMesh : OffParts × Mesh → List ℕ → Mesh → Outcome → Type 0
OnSewnMesh read origins mesh outcome =
    SaysNoDisc read.1 outcome ⊎ (IsDisc read.1 × Ends (IsSurfaceOf mesh) (GivesSewn read.0 origins) outcome)
