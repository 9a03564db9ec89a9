-- A surface that is cut open, between its text and the text that is written.
use Rattle.std.specs.Prelude.{ℕ, List, Result, Ok, Err}
use Rattle.surf_base.specs.Outside.{Files}
use Rattle.surf_base.specs.declared.limits.LimitKind.TheVariants.{Loops}
use Rattle.surf_surfaces.specs.Mesh.{Mesh}
use Rattle.surf_surfaces.specs.Surface.{loop_count}
use Rattle.surf_cutter.specs.Kinds.{Kind}
use Rattle.surf_cutter.specs.Opened.{OpenMesh}
use Rattle.surf_texts.specs.Outcome.{Outcome}
use Rattle.surf_words.specs.Words.{Extent}
use Rattle.surf_answers.specs.Cuts.{CutsAt}
use Rattle.surf_answers.specs.Reading.{HasLengths, HasBase, HasKind}
use Rattle.surf_answers.specs.Steps.{Ends, AtMost}

-- The surface has few loops, a word gives it lengths, the base is one of its vertices, it is to be cut so far, and
-- there it is cut open so.
pub record IsCutOpen (extent : Extent) (mesh : Mesh) (lengths : List ℕ) (base : ℕ) (files : Files) (opened : OpenMesh)
    : Type 0 where
  pub few : AtMost Loops 1024 (loop_count mesh) (Ok tt)
  pub values : List ℕ
  pub has_lengths : HasLengths lengths mesh files (Ok values)
  pub vertex : ℕ
  pub based : HasBase base mesh (Ok vertex)
  pub kind : Kind
  pub has_kind : HasKind extent mesh files (Ok kind)
  pub cuts : CutsAt kind mesh values vertex (Ok opened)

-- The surface is cut open; or one of the steps before stops.
abbrev pub CutsOpen : Extent → Mesh → List ℕ → ℕ → Files → Result OpenMesh Outcome → Type 0
CutsOpen extent mesh lengths base files (Ok opened) = IsCutOpen extent mesh lengths base files opened
CutsOpen extent mesh lengths base files (Err outcome) =
    Ends (AtMost Loops 1024 (loop_count mesh)) (λ _. Ends (HasLengths lengths mesh files) (λ values.
    Ends (HasBase base mesh) (λ vertex. Ends (HasKind extent mesh files) (λ kind end.
    CutsAt kind mesh values vertex (Err end))))) outcome
