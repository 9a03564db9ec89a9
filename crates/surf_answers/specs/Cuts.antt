-- A surface cut open into a disc at a base.
use Rattle.std.specs.Prelude.{◌≡◌, ℕ, List, length, Result, Ok, Err}
use Rattle.surf_surfaces.specs.Choice.{Trees, AreChosenAt}
use Rattle.surf_surfaces.specs.Disc.{IsOpening}
use Rattle.surf_surfaces.specs.Mesh.{Mesh}
use Rattle.surf_surfaces.specs.Surface.{edge_count}
use Rattle.surf_off.specs.Off.{OffParts}
use Rattle.surf_off.specs.Written.{opened_text, RereadsOpened}
use Rattle.surf_sew.specs.Copies.{copies_in}
use Rattle.surf_cutter.specs.Kinds.{Kind, IsOpeningOf, IsNear, HaveCopiesOnBorder}
use Rattle.surf_cutter.specs.Opened.{OpenMesh}
use Rattle.surf_texts.specs.Cause.{outcome_of}
use Rattle.surf_texts.specs.Outcome.{Outcome}
use Rattle.surf_texts.specs.PointLines.{near_cause}
use Rattle.surf_answers.specs.Says.{Says}

-- The faces over copies of the vertices are the surface opened along the cut of the kind that is chosen at the base,
-- with the copies in order. That is an opening: a disc with every face once. Each vertex that the cut is to go through
-- has a copy on the border.
pub record IsCutAt (mesh : Mesh) (lengths : List ℕ) (base : ℕ) (kind : Kind) (origins : List ℕ)
    (faces : List (List ℕ)) : Type 0 where
  pub trees : Trees
  pub chosen : AreChosenAt mesh lengths base trees
  pub opened : IsOpeningOf mesh trees.tree trees.cotree kind origins faces
  pub opening : IsOpening mesh origins faces
  pub border : HaveCopiesOnBorder kind origins faces

-- The cut of the kind that is chosen at the base has fewer than two edges, and is refused.
pub record IsNearAt (mesh : Mesh) (lengths : List ℕ) (base : ℕ) (kind : Kind) (outcome : Outcome) : Type 0 where
  pub trees : Trees
  pub chosen : AreChosenAt mesh lengths base trees
  pub near : IsNear mesh trees.tree trees.cotree kind
  pub is : outcome ≡ outcome_of near_cause

-- The surface is cut open at the base, if the cut has two edges or more.
abbrev pub CutsAt : Kind → Mesh → List ℕ → ℕ → Result OpenMesh Outcome → Type 0
CutsAt kind mesh lengths base (Ok opened) = IsCutAt mesh lengths base kind opened.origins opened.faces
CutsAt kind mesh lengths base (Err outcome) = IsNearAt mesh lengths base kind outcome

-- An opened surface as an OFF text: the keyword and the colours that were read, the line of each copy's vertex, and a
-- comment for each copy that says of which vertex it is.
abbrev pub cut_text : OffParts → List ℕ → List (List ℕ) → List ℕ
cut_text parts origins faces =
    opened_text parts origins faces (edge_count (record { vertices = length origins; faces = faces }))

-- The text of an opened surface is the answer. Read again without limits, it has the keyword and the colours that were
-- read, the line of each copy's vertex, and the faces over the copies. Its copy lines name the vertex of each copy.
pub record GivesOpened (parts : OffParts) (opened : OpenMesh) (outcome : Outcome) : Type 0 where
  pub says : Says (cut_text parts opened.origins opened.faces) outcome
  pub rereads :
      RereadsOpened parts opened.origins opened.faces
      (edge_count (record { vertices = length opened.origins; faces = opened.faces }))
  pub copies : copies_in (cut_text parts opened.origins opened.faces) (length opened.origins) ≡ Ok opened.origins
