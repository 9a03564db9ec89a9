-- What comes of the text of a mesh: its shortest basis, or why there is none.
use Rattle.std.specs.Prelude.{◌≡◌, ◌≢◌, ◌⊎◌, ℕ, ◌+◌, ◌<◌, List, Ok, Err, replicate}
use Rattle.surf_surfaces.specs.Mesh.{Mesh}
use Rattle.surf_surfaces.specs.Surface.{face_count, edge_count, IsSurface}
use Rattle.surf_surfaces.specs.Choice.{Loop}
use Rattle.surf_surfaces.specs.ChoiceLaws.{LeastSimpleBasis}
use Rattle.surf_off.specs.Off.{OffParts, off_of}
use Rattle.surf_off.specs.declared.fault.OffFault.TheVariants as off
use Rattle.surf_check.specs.Fault.{IsSurfaceFault}
use Rattle.surf_example.specs.declared.refusal.Refusal.{Refusal}
use Rattle.surf_example.specs.declared.refusal.Refusal.TheVariants.{Text, Surface, ManyLoops, Memory}

-- the text is that of a mesh
abbrev pub IsTextOf : List ℕ → Mesh → Type 0
IsTextOf text mesh = (parts : OffParts) × (off_of text ≡ Ok (parts, mesh))

-- it is that of a surface, of which the loops are a least basis where each edge has the length 1
abbrev pub IsBasisOf : List ℕ → List Loop → Type 0
IsBasisOf text basis = (mesh : Mesh) × IsTextOf text mesh × IsSurface mesh
    × LeastSimpleBasis mesh (replicate (edge_count mesh) 1) basis

-- the surface has too many loops, or there is no memory
abbrev pub IsMeshRefusal : Mesh → Refusal → Type 0
IsMeshRefusal mesh refusal = ((refusal ≡ ManyLoops) × (mesh.vertices + face_count mesh + 1024 < edge_count mesh + 2))
    ⊎ (refusal ≡ Memory)

-- the text or its mesh has the fault that the refusal tells
abbrev pub IsRefusalOf : List ℕ → Refusal → Type 0
IsRefusalOf text (Text fault) = fault ≢ off.Memory → off_of text ≡ Err fault
IsRefusalOf text (Surface fault) = (mesh : Mesh) × IsTextOf text mesh × IsSurfaceFault mesh fault
IsRefusalOf text ManyLoops = (mesh : Mesh) × IsTextOf text mesh × IsSurface mesh
    × (mesh.vertices + face_count mesh + 1024 < edge_count mesh + 2)
IsRefusalOf text Memory = Unit {0}
