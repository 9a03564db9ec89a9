-- Fronts that rows share, as one step.
use Rattle.surf_answers.proofs.Common.{◌≡◌, ℕ, List, Option, Ok, Mesh, loop_count, IfSome, Loops, Outcome}
use Rattle.surf_base.specs.Outside.{Files}
use Rattle.surf_base.specs.declared.limits.LimitKind.{LimitKind}
use Rattle.surf_off.specs.Off.{OffParts}
use Rattle.surf_answers.specs.Fronts.{IsMeasuredSurface, IsSmallSurface, MeasuresSurface, MeasuresSmall, OnMeasured}
use Rattle.surf_answers.specs.Fronts.{OnSmall}
use Rattle.surf_answers.specs.Reading.{Reads, HasLengths, HoldsSurface}
use Rattle.surf_answers.specs.Steps.{Ends, stops, goes, AtMost}
use Rattle.surf_answers.proofs.Composing.{SoFar, begun, follows_so, some_so, at_once}

-- ---- a row whose front is taken as one step

module _ (rest : Mesh → List ℕ → Files → Outcome → Type 0) (name word : List ℕ) where
  abbrev pub measured_steps : Files → Outcome → Type 0
  measured_steps files = OnMeasured name word files (λ read values. rest read.1 values files)

  abbrev pub measured_step : Files → Outcome → Type 0
  measured_step files = Ends (MeasuresSurface name word files) (λ found. rest found.0 found.1 files)

  measured_apart : (files : Files) (o : Outcome) → measured_step files o → measured_steps files o
  measured_apart files o (stops (stops end)) = stops end
  measured_apart files o (stops (goes bytes reads (stops end))) = goes bytes reads (stops end)
  measured_apart files o (stops (goes bytes reads (goes read surface (stops end)))) = goes bytes reads (goes read surface (stops end))
  measured_apart files o (stops (goes bytes reads (goes read surface (goes done few end)))) =
      goes bytes reads (goes read surface (goes done few (stops end)))
  measured_apart files o (goes found is end) =
      goes is.bytes is.reads (goes (is.parts, found.0) is.surface (goes tt is.few (goes found.1 is.has end)))

  pub measured_front : {holds : Option Files} {old : ℕ} → SoFar holds old old measured_steps measured_step
  measured_front = follows_so begun measured_apart

  module _ (kind : LimitKind) (most : ℕ) where
    abbrev pub small_steps : Files → Outcome → Type 0
    small_steps files = OnSmall kind most name word files (λ read values. rest read.1 values files)

    abbrev pub small_step : Files → Outcome → Type 0
    small_step files = Ends (MeasuresSmall kind most name word files) (λ found. rest found.0 found.1 files)

    small_apart : (files : Files) (o : Outcome) → small_step files o → small_steps files o
    small_apart files o (stops (stops end)) = stops end
    small_apart files o (stops (goes bytes reads (stops end))) = goes bytes reads (stops end)
    small_apart files o (stops (goes bytes reads (goes read surface (stops end)))) = goes bytes reads (goes read surface (stops end))
    small_apart files o (stops (goes bytes reads (goes read surface (goes done few (stops end))))) =
        goes bytes reads (goes read surface (goes done few (stops end)))
    small_apart files o (stops (goes bytes reads (goes read surface (goes done few (goes all small end))))) =
        goes bytes reads (goes read surface (goes done few (goes all small (stops end))))
    small_apart files o (goes found is end) =
        goes is.is.bytes is.is.reads (goes (is.is.parts, found.0) is.is.surface (goes tt is.is.few (goes tt is.small
        (goes found.1 is.is.has end))))

    pub small_front : {holds : Option Files} {old : ℕ} → SoFar holds old old small_steps small_step
    small_front = follows_so begun small_apart

-- ---- what the functions that take these steps give

module _ {held there holds : Option Files} (name word : List ℕ) (mesh : Mesh) (bytes values : List ℕ) (parts : OffParts) (same : held ≡ holds)
    (from : HoldsSurface held name bytes (parts, mesh)) (few : AtMost Loops 1024 (loop_count mesh) (Ok tt)) (alike : there ≡ holds)
    (has : IfSome there (λ files. HasLengths word mesh files (Ok values))) where
  pub measured_so : IfSome holds (λ files. IsMeasuredSurface name word files mesh values)
  measured_so = some_so holds (λ files is. record { bytes = bytes; reads = is.0; parts = parts; surface = from.1; few = few; has = is.1 })
      (at_once (λ files. Reads name files (Ok bytes)) (λ files. HasLengths word mesh files (Ok values)) same from.0 alike has)

  pub small_so : (kind : LimitKind) (most : ℕ) → AtMost kind most mesh.vertices (Ok tt) → IfSome holds (λ files. IsSmallSurface kind most name word files mesh values)
  small_so kind most small = some_so holds (λ files is. record { is = is; small = small }) measured_so
