-- Flags of faces and of edges.
use Rattle.std.specs.Prelude.{◌≡◌, ℕ, Bool, List}
use Rattle.surf_surfaces.specs.Mesh.{Mesh}
use Rattle.surf_surfaces.specs.Homology.{boundary}
use Rattle.surf_treecheck.specs.Split.{is_flagged}

-- an edge is flagged exactly where one of its two faces is, and not both
abbrev pub AgreesAt : Mesh → List Bool → List Bool → ℕ → Type 0
AgreesAt mesh faces flags e = boundary mesh (is_flagged faces) e ≡ is_flagged flags e
