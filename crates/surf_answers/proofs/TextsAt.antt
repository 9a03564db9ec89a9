-- The text of a file, of which the mesh alone goes on.
use Rattle.surf_answers.proofs.Common.{◌≡◌, ℕ, List, Option, Result, Ok, Err, inl, inr, sym, subst, Mesh, IsSurface, IfOk, IfSome, IsErrAnd, Outcome, Cause, due, unread, starved, cause_of, Refused, Why, Takes, WhyOver, TakesOver, ConcludesOver}
use Rattle.surf_answers.specs.declared.answered.Answered.{Answered}
use Rattle.surf_base.specs.Outside.{Files}
use Rattle.surf_off.specs.Off.{OffParts}
use Rattle.surf_answers.specs.Steps.{Ends, stops, goes}
use Rattle.surf_answers.specs.Reading.{Reads, IsMeshText, GivesMesh, IsSurfaceOf, IsSurfaceText, HoldsText, IsTextAt}
use Rattle.surf_answers.proofs.Composing.{handed, some_so, why_over_so}

-- the cause of a step that reads no file
why_here : (old new : ℕ) {P : Outcome → Type 0} (holds : Option Files) (Q : Files → Outcome → Type 0) → ((o : Outcome) → P o → IfSome holds (λ files. Q files o)) →
    (c : Cause) → Why P c → WhyOver holds old new Q c
why_here old new holds Q follows (due o) is = follows o is
why_here old new holds Q follows unread is = absurd is
why_here old new holds Q follows starved is = tt

-- the mesh in the text of a file whose bytes were read, or its fault
module _ (holds : Option Files) (name bytes others : List ℕ) (same : others ≡ bytes) (read : IfSome holds (λ files. Reads name files (Ok bytes))) where
  read_so : IfSome holds (λ files. Reads name files (Ok others))
  read_so = some_so holds (λ files reads. subst (λ (b : List ℕ). Reads name files (Ok b)) (sym same) reads) read

  pub mesh_taken : (old new : ℕ) (r : Result Mesh Refused) → Takes (λ m. m) (GivesMesh others) r → TakesOver holds old new (λ m. m) (IsTextAt IsMeshText name) r
  mesh_taken old new (Ok mesh) is = some_so holds (λ files reads. (others, is.0, reads, is.1)) read_so
  mesh_taken old new (Err e) why =
      why_here old new holds (λ files o. IsTextAt IsMeshText name files (Err o))
      (λ o ended. some_so holds (λ files reads. goes others reads ended) read_so) (cause_of e) why

  pub mesh_held : (r : Result Mesh Refused) → Takes (λ m. m) (GivesMesh others) r →
      IfOk r (λ mesh. (text : List ℕ) × (parts : OffParts) × HoldsText IsMeshText holds name text (parts, mesh))
  mesh_held (Ok mesh) is = (others, is.0, (read_so, is.1))
  mesh_held (Err e) why = tt

-- no surface is read where no mesh is
no_surface : (name : List ℕ) (files : Files) (o : Outcome) → IsTextAt IsMeshText name files (Err o) → IsTextAt IsSurfaceText name files (Err o)
no_surface name files o (stops ended) = stops ended
no_surface name files o (goes bytes read ended) = goes bytes read (inl ended)

pub mesh_failed : (old new : ℕ) (holds : Option Files) (name : List ℕ) (e : Refused) → WhyOver holds old new (λ files o. IsTextAt IsMeshText name files (Err o)) (cause_of e) →
    (r : Result Mesh Refused) → IsErrAnd r (λ x. x ≡ e) → TakesOver holds old new (λ mesh. mesh) (IsTextAt IsSurfaceText name) r
mesh_failed old new holds name e why r is =
    handed (TakesOver holds old new (λ mesh. mesh) (IsTextAt IsSurfaceText name)) e r is (why_over_so old new holds (no_surface name) (cause_of e) why)

-- the mesh of a file that was read is a surface, or has a fault
pub surface_taken : (old new : ℕ) (holds : Option Files) (name : List ℕ) (mesh : Mesh) → IfSome holds (λ files. IsTextAt IsMeshText name files (Ok mesh)) →
    (r : Result Mesh Refused) → Takes (λ m. m) (IsSurfaceOf mesh) r → TakesOver holds old new (λ m. m) (IsTextAt IsSurfaceText name) r
surface_taken old new holds name mesh read (Ok same) is =
    some_so holds (λ files at. (at.0, at.1, at.2, (subst (λ (m : Mesh). IsMeshText at.0 (Ok (at.1, m))) (sym is.0) at.3, subst IsSurface (sym is.0) is.1))) read
surface_taken old new holds name mesh read (Err e) is =
    why_here old new holds (λ files o. IsTextAt IsSurfaceText name files (Err o))
    (λ o fault. some_so holds (λ files at. goes at.0 at.2 (inr ((at.1, mesh), at.3, fault))) read) (cause_of e) is

-- a command stops where the text of its file isn't read
pub text_stopped : (old new : ℕ) (holds : Option Files) (reads : List ℕ → Result (OffParts × Mesh) Outcome → Type 0) (name : List ℕ)
    (second : List ℕ → OffParts × Mesh → Files → Outcome → Type 0) (e : Refused) → WhyOver holds old new (λ files o. IsTextAt reads name files (Err o)) (cause_of e) →
    (r : Result Answered Refused) → IsErrAnd r (λ x. x ≡ e) →
    ConcludesOver holds old new (λ files. Ends (Reads name files) (λ bytes. Ends (reads bytes) (λ read. second bytes read files))) r
text_stopped old new holds reads name second e why r is =
    handed (ConcludesOver holds old new (λ files. Ends (Reads name files) (λ bytes. Ends (reads bytes) (λ read. second bytes read files)))) e r is
    (why_over_so old new holds stopped (cause_of e) why)
  where
    stopped : (files : Files) (o : Outcome) → IsTextAt reads name files (Err o) → Ends (Reads name files) (λ bytes. Ends (reads bytes) (λ read. second bytes read files)) o
    stopped files o (stops ended) = stops ended
    stopped files o (goes bytes read ended) = goes bytes read (stops ended)
