-- Fronts that rows share, and what comes behind them.
use Rattle.std.specs.Prelude.{ℕ, ◌*◌, ◌^◌, List, Result, Ok, Err}
use Rattle.surf_base.specs.Outside.{Files}
use Rattle.surf_base.specs.declared.limits.LimitKind.{LimitKind}
use Rattle.surf_base.specs.declared.limits.LimitKind.TheVariants.{Vertices, Faces, Loops, CoverLoops, CoverNodes}
use Rattle.surf_surfaces.specs.Mesh.{Mesh}
use Rattle.surf_surfaces.specs.Surface.{face_count, loop_count}
use Rattle.surf_off.specs.Off.{OffParts}
use Rattle.surf_texts.specs.Outcome.{Outcome}
use Rattle.surf_texts.specs.declared.walks.WalkFile.TheVariants.{First}
use Rattle.surf_answers.specs.Reading.{Reads, IsMeshText, IsSurfaceText, HasLengths, HasBase, HasWalk}
use Rattle.surf_answers.specs.Steps.{AtMost, ◌>>=◌, ◌>>◌}

-- the text of a mesh in the file of a name
abbrev pub OnText : List ℕ → Files → (List ℕ → OffParts × Mesh → Outcome → Type 0) → Outcome → Type 0
OnText mesh files rest = Reads mesh files >>= λ bytes. IsMeshText bytes >>= rest bytes

-- a surface in the file of a name
abbrev pub OnSurface : List ℕ → Files → (OffParts × Mesh → Outcome → Type 0) → Outcome → Type 0
OnSurface mesh files rest = Reads mesh files >>= λ bytes. IsSurfaceText bytes >>= rest

-- .. which has at most 1,024 loops
abbrev pub OnFewLoops : List ℕ → Files → (OffParts × Mesh → Outcome → Type 0) → Outcome → Type 0
OnFewLoops mesh files rest = OnSurface mesh files (λ read. AtMost Loops 1024 (loop_count read.1) >> rest read)

-- .. and to which a word gives lengths
abbrev pub OnMeasured : List ℕ → List ℕ → Files → (OffParts × Mesh → List ℕ → Outcome → Type 0) → Outcome → Type 0
OnMeasured mesh word files rest = OnFewLoops mesh files (λ read. HasLengths word read.1 files >>= rest read)

-- .. with a base
abbrev pub OnBased : List ℕ → List ℕ → ℕ → Files → (OffParts × Mesh → List ℕ → ℕ → Outcome → Type 0) → Outcome →
    Type 0
OnBased mesh word base files rest =
    OnMeasured mesh word files (λ read values. HasBase base read.1 >>= rest read values)

-- a surface with at most 1,024 loops and few vertices, by a limit, to which a word gives lengths
abbrev pub OnSmall : LimitKind → ℕ → List ℕ → List ℕ → Files → (OffParts × Mesh → List ℕ → Outcome → Type 0) →
    Outcome → Type 0
OnSmall kind most mesh word files rest = OnFewLoops mesh files (λ read. do
  AtMost kind most read.1.vertices
  values ← HasLengths word read.1 files
  rest read values)

-- a surface with at most 1,024 loops and a small cover, by a limit on its loops and one on its vertices with sets of
-- loops, to which a word gives lengths, and a closed walk on it
abbrev pub OnCovered : ℕ → ℕ → List ℕ → List ℕ → List ℕ → Files →
    (OffParts × Mesh → List ℕ → List ℕ → Outcome → Type 0) → Outcome → Type 0
OnCovered loops nodes mesh word walk files rest = OnFewLoops mesh files (λ read. do
  AtMost CoverLoops loops (loop_count read.1)
  AtMost CoverNodes nodes (read.1.vertices * 2 ^ loop_count read.1)
  values ← HasLengths word read.1 files
  closed ← HasWalk First walk read.1 files
  rest read values closed)

-- a mesh that is made, with at most 1,000,000 vertices and 2,000,000 faces
abbrev pub OnMesh : Mesh → (Outcome → Type 0) → Outcome → Type 0
OnMesh mesh rest = AtMost Vertices 1000000 mesh.vertices >> (AtMost Faces 2000000 (face_count mesh) >> rest)

-- The file of a name has a surface with few loops, and a word gives it lengths.
pub record IsMeasuredSurface (name word : List ℕ) (files : Files) (mesh : Mesh) (values : List ℕ) : Type 0 where
  pub bytes : List ℕ
  pub reads : Reads name files (Ok bytes)
  pub parts : OffParts
  pub surface : IsSurfaceText bytes (Ok (parts, mesh))
  pub few : AtMost Loops 1024 (loop_count mesh) (Ok tt)
  pub has : HasLengths word mesh files (Ok values)

-- .. and goes on with them; or one of these steps stops.
abbrev pub MeasuresSurface : List ℕ → List ℕ → Files → Result (Mesh × List ℕ) Outcome → Type 0
MeasuresSurface name word files (Ok found) = IsMeasuredSurface name word files found.0 found.1
MeasuresSurface name word files (Err outcome) =
    OnFewLoops name files (λ read end. HasLengths word read.1 files (Err end)) outcome

-- The surface has few vertices too.
pub record IsSmallSurface (kind : LimitKind) (most : ℕ) (name word : List ℕ) (files : Files) (mesh : Mesh)
    (values : List ℕ) : Type 0 where
  pub is : IsMeasuredSurface name word files mesh values
  pub small : AtMost kind most mesh.vertices (Ok tt)

-- .. and goes on with its lengths; or one of these steps stops.
abbrev pub MeasuresSmall : LimitKind → ℕ → List ℕ → List ℕ → Files → Result (Mesh × List ℕ) Outcome → Type 0
MeasuresSmall kind most name word files (Ok found) = IsSmallSurface kind most name word files found.0 found.1
MeasuresSmall kind most name word files (Err outcome) =
    OnFewLoops name files (λ read. AtMost kind most read.1.vertices >>
    (λ end. HasLengths word read.1 files (Err end))) outcome
