-- What is read of files: bytes, meshes, lengths, walks, vertices, certificates and evidence.
use Rattle.std.specs.Prelude.{◌≡◌, ◌<◌, ◌≤◌, ◌⊎◌, ℕ, nat_lt, List, length, replicate, Option, Some, None, codes}
use Rattle.std.specs.Prelude.{Result, Ok, Err, IfSome, if◌then◌else◌}
use Rattle.std.specs.Str.{bytes_eq}
use Rattle.surf_base.specs.Outside.{Files, bytes_of}
use Rattle.surf_base.specs.declared.limits.LimitKind.TheVariants.{Text}
use Rattle.surf_surfaces.specs.Mesh.{Mesh}
use Rattle.surf_surfaces.specs.Surface.{edge_count, IsSurface}
use Rattle.surf_surfaces.specs.Walk.{IsClosed}
use Rattle.surf_classes.specs.Evidence.{Evidence}
use Rattle.surf_off.specs.Off.{OffParts, off_of}
use Rattle.surf_check.specs.Fault.{IsSurfaceFault}
use Rattle.surf_check.specs.declared.checking.SurfaceFault.TheVariants.{Memory}
use Rattle.surf_lengths.specs.Files.{lengths_in}
use Rattle.surf_lengths.specs.Lengths.{AreLengths}
use Rattle.surf_cert.specs.Grammar.{parsed_cert}
use Rattle.surf_records.specs.declared.cert.Cert.{Cert}
use Rattle.surf_records.specs.declared.cert.Cert.TheVariants.{Loops, Basis}
use Rattle.surf_class.specs.Evidences.{evidence_in}
use Rattle.surf_class.specs.Points.{points_in}
use Rattle.surf_class.specs.Walks.{walk_in}
use Rattle.surf_texts.specs.Cause.{outcome_of, refused_by}
use Rattle.surf_texts.specs.CertLines.{cert_cause}
use Rattle.surf_texts.specs.Faults.{TellsFault}
use Rattle.surf_texts.specs.EvidenceLines.{evidence_cause}
use Rattle.surf_texts.specs.LengthLines.{length_cause}
use Rattle.surf_texts.specs.Limits.{beyond}
use Rattle.surf_texts.specs.MeshLines.{off_cause}
use Rattle.surf_texts.specs.Outcome.{Outcome, misses, refuses}
use Rattle.surf_texts.specs.PointLines.{point_cause}
use Rattle.surf_texts.specs.SurfaceLines.{surface_cause}
use Rattle.surf_texts.specs.WalkLines.{walk_cause}
use Rattle.surf_texts.specs.declared.walks.WalkFile.{WalkFile}
use Rattle.surf_cutter.specs.Kinds.{Kind, full, trimmed, through}
use Rattle.surf_words.specs.Words.{Extent, fully}
use Rattle.surf_words.specs.Words.{trimmed as trimmed_words, through as through_words}
use Rattle.surf_answers.specs.Steps.{Ends, and_then}
use Rattle.surf_texts.specs.CountLines.{of_line}

-- the bytes of a file, unless it isn't there or has more than 268,435,456 of them
abbrev pub within_text : Option (List ℕ) → Result (List ℕ) Outcome
within_text None = Err misses
within_text (Some bytes) = if nat_lt 268435456 (length bytes) then Err (beyond Text) else Ok bytes

-- The file of a name is read.
abbrev pub Reads : List ℕ → Files → Result (List ℕ) Outcome → Type 0
Reads name files result = result ≡ within_text (bytes_of files name)

-- ---- meshes

-- The bytes are read as the text of a mesh.
abbrev pub IsMeshText : List ℕ → Result (OffParts × Mesh) Outcome → Type 0
IsMeshText bytes result = result ≡ refused_by off_cause (off_of bytes)

-- .. and of what they give, the mesh goes on
abbrev pub GivesMesh : List ℕ → Result Mesh Outcome → Type 0
GivesMesh bytes (Ok mesh) = (parts : OffParts) × IsMeshText bytes (Ok (parts, mesh))
GivesMesh bytes (Err outcome) = IsMeshText bytes (Err outcome)

-- A fault of the mesh comes out so.
abbrev pub EndsInFault : Mesh → Outcome → Type 0
EndsInFault mesh = TellsFault Memory (IsSurfaceFault mesh) (λ fault. outcome_of (surface_cause fault))

-- The mesh is a surface, and goes on; or it has a fault.
abbrev pub IsSurfaceOf : Mesh → Result Mesh Outcome → Type 0
IsSurfaceOf mesh (Ok same) = (same ≡ mesh) × IsSurface mesh
IsSurfaceOf mesh (Err outcome) = EndsInFault mesh outcome

-- The bytes are the text of a surface, and go on as its parts and its mesh.
abbrev pub IsSurfaceText : List ℕ → Result (OffParts × Mesh) Outcome → Type 0
IsSurfaceText bytes (Ok read) = IsMeshText bytes (Ok read) × IsSurface read.1
IsSurfaceText bytes (Err outcome) =
    IsMeshText bytes (Err outcome)
    ⊎ ((read : OffParts × Mesh) × IsMeshText bytes (Ok read) × EndsInFault read.1 outcome)

-- Wherever it is told what files hold, the file of a name has these bytes; and they are read so.
abbrev pub HoldsText : (List ℕ → Result (OffParts × Mesh) Outcome → Type 0) → Option Files → List ℕ → List ℕ →
    OffParts × Mesh → Type 0
HoldsText reads holds name bytes read = IfSome holds (λ files. Reads name files (Ok bytes)) × reads bytes (Ok read)

-- .. and they are the text of a surface
abbrev pub HoldsSurface : Option Files → List ℕ → List ℕ → OffParts × Mesh → Type 0
HoldsSurface holds name bytes read = HoldsText IsSurfaceText holds name bytes read

-- The file of a name is read, and its bytes are read so; of what they give, the mesh goes on.
abbrev pub IsTextAt : (List ℕ → Result (OffParts × Mesh) Outcome → Type 0) → List ℕ → Files → Result Mesh Outcome →
    Type 0
IsTextAt reads name files (Ok mesh) =
    (bytes : List ℕ) × (parts : OffParts) × Reads name files (Ok bytes) × reads bytes (Ok (parts, mesh))
IsTextAt reads name files (Err outcome) = Ends (Reads name files) (λ bytes end. reads bytes (Err end)) outcome

-- ---- lengths and a base

-- The bytes are the text of a length file for the mesh.
abbrev pub IsLengthText : List ℕ → Mesh → Result (List ℕ) Outcome → Type 0
IsLengthText bytes mesh result = result ≡ refused_by length_cause (lengths_in mesh bytes)

-- The word `unit` gives each edge the length 1; any other word is the name of a length file.
abbrev pub lengths_for : List ℕ → Mesh → Files → Result (List ℕ) Outcome
lengths_for word mesh files =
    if bytes_eq word (codes "unit") then Ok (replicate (edge_count mesh) 1)
    else and_then (λ bytes. refused_by length_cause (lengths_in mesh bytes)) (within_text (bytes_of files word))

-- A word gives lengths to the edges, each from 1 to 4,294,967,295.
abbrev pub HasLengths : List ℕ → Mesh → Files → Result (List ℕ) Outcome → Type 0
HasLengths word mesh files (Ok lengths) =
    (Ok lengths ≡ lengths_for word mesh files) × AreLengths lengths × (length lengths ≡ edge_count mesh)
HasLengths word mesh files (Err outcome) = Err outcome ≡ lengths_for word mesh files

-- The base is a vertex.
abbrev pub HasBase : ℕ → Mesh → Result ℕ Outcome → Type 0
HasBase base mesh (Ok vertex) = (vertex ≡ base) × (base < mesh.vertices)
HasBase base mesh (Err outcome) = (mesh.vertices ≤ base) × (outcome ≡ refuses 7 (of_line "base: " base mesh.vertices))

-- ---- walks

-- The bytes are the text of a walk file for the mesh.
abbrev pub WalksText : WalkFile → Mesh → List ℕ → Result (List ℕ) Outcome → Type 0
WalksText file mesh bytes result = result ≡ refused_by (walk_cause file) (walk_in mesh bytes)

-- the walk that the file of a name gives
abbrev pub walk_named : WalkFile → List ℕ → Mesh → Files → Result (List ℕ) Outcome
walk_named file name mesh files =
    and_then (λ bytes. refused_by (walk_cause file) (walk_in mesh bytes)) (within_text (bytes_of files name))

-- The file of a name gives a closed walk of the mesh.
abbrev pub HasWalk : WalkFile → List ℕ → Mesh → Files → Result (List ℕ) Outcome → Type 0
HasWalk file name mesh files (Ok walk) = (Ok walk ≡ walk_named file name mesh files) × IsClosed mesh walk
HasWalk file name mesh files (Err outcome) = Err outcome ≡ walk_named file name mesh files

-- ---- vertices

-- The bytes are the text of a file of vertices of the mesh.
abbrev pub PointsText : Mesh → List ℕ → Result (List ℕ) Outcome → Type 0
PointsText mesh bytes result = result ≡ refused_by point_cause (points_in mesh bytes)

-- The file of a name gives vertices of the mesh.
abbrev pub HasPoints : List ℕ → Mesh → Files → Result (List ℕ) Outcome → Type 0
HasPoints name mesh files result =
    result ≡ and_then (λ bytes. refused_by point_cause (points_in mesh bytes)) (within_text (bytes_of files name))

-- how far a surface is cut, as the words say and a file of vertices gives
abbrev pub kind_named : Extent → Mesh → Files → Result Kind Outcome
kind_named fully mesh files = Ok full
kind_named trimmed_words mesh files = Ok trimmed
kind_named (through_words name) mesh files =
    and_then (λ bytes. and_then (λ points. Ok (through points)) (refused_by point_cause (points_in mesh bytes)))
    (within_text (bytes_of files name))

-- A surface is to be cut so far.
abbrev pub HasKind : Extent → Mesh → Files → Result Kind Outcome → Type 0
HasKind extent mesh files result = result ≡ kind_named extent mesh files

-- ---- certificates and evidence

-- The bytes are the text of a certificate.
abbrev pub IsCertText : List ℕ → Result Cert Outcome → Type 0
IsCertText bytes result = result ≡ refused_by cert_cause (parsed_cert bytes)

-- how many trees of vertices a certificate has: one at its base, or one at each vertex
abbrev pub tree_count : Mesh → Cert → ℕ
tree_count mesh (Loops cert) = 1
tree_count mesh (Basis cert) = mesh.vertices

-- The bytes are the text of evidence.
abbrev pub IsEvidenceText : List ℕ → Result Evidence Outcome → Type 0
IsEvidenceText bytes result = result ≡ refused_by evidence_cause (evidence_in bytes)
