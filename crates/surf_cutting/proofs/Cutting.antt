-- The steps of a request to cut a surface open, up to the text that is written.
use Rattle.surf_answers.proofs.Common.{◌≡◌, ◌≤◌, ℕ, List, Option, Result, Ok, Err, refl, Mesh, loop_count, IfSome}
use Rattle.surf_answers.proofs.Common.{Loops, Kind, Outcome, Refused, CutsAt, GivesOpened, Takes, TakesOver}
use Rattle.surf_cutter.specs.Opened.{OpenMesh}
use Rattle.surf_answers.proofs.Commands.{Files, OffParts, Extent, HasLengths, HasBase, HasKind, Ends, stops, goes}
use Rattle.surf_answers.proofs.Commands.{AtMost, SoFar, begun, over, past, ended, follows_so, some_so, at_once}
use Rattle.surf_answers.proofs.Commands.{refused}
use Rattle.surf_cutting.specs.Cutting.{CutsOpen}

-- what comes of a surface, as steps
abbrev pub cut_steps : Extent → OffParts → Mesh → List ℕ → ℕ → Files → Outcome → Type 0
cut_steps extent parts mesh lengths base files =
    Ends (AtMost Loops 1024 (loop_count mesh)) (λ _. Ends (HasLengths lengths mesh files) (λ values.
    Ends (HasBase base mesh) (λ vertex. Ends (HasKind extent mesh files) (λ kind.
    Ends (CutsAt kind mesh values vertex) (λ opened. GivesOpened parts opened)))))

-- .. with the opening as one step
abbrev pub opening_steps : Extent → OffParts → Mesh → List ℕ → ℕ → Files → Outcome → Type 0
opening_steps extent parts mesh lengths base files =
    Ends (CutsOpen extent mesh lengths base files) (λ opened. GivesOpened parts opened)

module _ (extent : Extent) (parts : OffParts) (mesh : Mesh) (lengths : List ℕ) (base : ℕ) (files : Files) (o : Outcome) where
  step_by_step : opening_steps extent parts mesh lengths base files o → cut_steps extent parts mesh lengths base files o
  step_by_step (stops (stops end)) = stops end
  step_by_step (stops (goes done few (stops end))) = goes done few (stops end)
  step_by_step (stops (goes done few (goes values measured (stops end)))) = goes done few (goes values measured (stops end))
  step_by_step (stops (goes done few (goes values measured (goes vertex based (stops end))))) =
      goes done few (goes values measured (goes vertex based (stops end)))
  step_by_step (stops (goes done few (goes values measured (goes vertex based (goes kind has end))))) =
      goes done few (goes values measured (goes vertex based (goes kind has (stops end))))
  step_by_step (goes opened is gives) =
      goes tt is.few (goes is.values is.has_lengths (goes is.vertex is.based (goes is.kind is.has_kind (goes opened is.cuts gives))))

pub in_one_step : (extent : Extent) (parts : OffParts) (mesh : Mesh) (lengths : List ℕ) (base : ℕ) {holds : Option Files} {old now : ℕ} {whole : Files → Outcome → Type 0} →
    SoFar holds old now whole (cut_steps extent parts mesh lengths base) → SoFar holds old now whole (opening_steps extent parts mesh lengths base)
in_one_step extent parts mesh lengths base far = follows_so far (λ files o. step_by_step extent parts mesh lengths base files o)

-- what the function gives that takes these steps: it is opened, or its cut has too few edges, unless memory ran out
pub cut_open : {holds there : Option Files} {old mid new : ℕ} (extent : Extent) (mesh : Mesh) (lengths : List ℕ) (base : ℕ) → AtMost Loops 1024 (loop_count mesh) (Ok tt) →
    (values : List ℕ) → IfSome holds (λ files. HasLengths lengths mesh files (Ok values)) → old ≤ mid → (vertex : ℕ) → HasBase base mesh (Ok vertex) →
    (kind : Kind) → there ≡ holds → IfSome there (λ files. HasKind extent mesh files (Ok kind)) → mid ≤ new → (r : Result OpenMesh Refused) →
    Takes (λ (opened : OpenMesh). opened) (CutsAt kind mesh values vertex) r → TakesOver holds old new (λ (opened : OpenMesh). opened) (CutsOpen extent mesh lengths base) r
cut_open {holds} {there} {old} {mid} {new} extent mesh lengths base few values went later vertex based kind alike told after (Ok opened) cuts = some_so holds (λ files is. record {
  few = few;
  values = values;
  has_lengths = is.0;
  vertex = vertex;
  based = based;
  kind = kind;
  has_kind = is.1;
  cuts = cuts;
}) (at_once (λ files. HasLengths lengths mesh files (Ok values)) (λ files. HasKind extent mesh files (Ok kind)) refl went alike told)
cut_open {holds} {there} {old} {mid} {new} extent mesh lengths base few values went later vertex based kind alike told after (Err e) why =
    refused holds old new (CutsOpen extent mesh lengths base) e (Err e) refl
    (ended (over (past (over (past begun tt few) values refl went later) vertex based) kind alike told after) (Err e) why)
