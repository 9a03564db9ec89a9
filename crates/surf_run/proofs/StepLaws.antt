-- Steps, here and there: what one gives here it gives there, and there it gives one thing.
use Rattle.surf_answers.proofs.Common.{◌≡◌, ◌≢◌, inl, inr, ℕ, Bool, true, false, List, [], Result, Ok, Err, refl, sym, ◌∙◌, ap, subst, arith, ◌∷◌, if◌then◌else◌, codes, replicate, Mesh, edge_count, IsSurface, AllByRecursion, bytes_eq, Outcome, refused_by, through, point_cause}
use Rattle.surf_answers.proofs.Commands.{Files, bytes_of, length_cause, Ends, stops, goes, AtMost, and_then, Reads}
use Rattle.surf_answers.proofs.Commands.{within_text, IsMeshText, EndsInFault, IsSurfaceOf, IsSurfaceText}
use Rattle.surf_answers.proofs.Commands.{lengths_for, HasLengths, HasBase, walk_named, HasWalk, HasKind, kind_named}
use Rattle.surf_answers.proofs.Commands.{OffParts, off_of, off_cause, LimitKind, WalkFile, points_in, Extent, fully}
use Rattle.surf_answers.proofs.Commands.{length_file, point_file, lengths_in, walk_in, walk_cause}
use Rattle.surf_check.proofs.FaultLaws.{fault_only}
use Rattle.surf_run.proofs.OneFaults.{surface_faults_are_one}
use Rattle.surf_texts.specs.Faults.{TellsFault}
use Rattle.surf_words.specs.Words.{trimmed as trimmed_words, through as through_words}

-- two results of a step go on with one value, or end in one outcome
abbrev pub Agree : {A : Type 0} → Result A Outcome → Result A Outcome → Type 0
Agree (Ok a) (Ok b) = a ≡ b
Agree (Ok a) (Err p) = ⊥
Agree (Err o) (Ok b) = ⊥
Agree (Err o) (Err p) = o ≡ p

abbrev pub IsOne : {A : Type 0} → (Result A Outcome → Type 0) → Type 0
IsOne {A} step = (r s : Result A Outcome) → step r → step s → Agree r s

abbrev pub HasOneOutcome : (Outcome → Type 0) → Type 0
HasOneOutcome end = (o p : Outcome) → end o → end p → o ≡ p

agree_same : {A : Type 0} (r : Result A Outcome) → Agree r r
agree_same (Ok a) = refl
agree_same (Err o) = refl

-- a step with a stated result is one
pub one_result : {A : Type 0} (x : Result A Outcome) → IsOne (λ r. r ≡ x)
one_result {A} x = λ r s first second. subst (λ (t : Result A Outcome). Agree r t) (first ∙ sym second) (agree_same r)

-- an end with a stated outcome has one
pub one_outcome : (x : Outcome) → HasOneOutcome (λ o. o ≡ x)
one_outcome x = λ o p first second. first ∙ sym second

-- where a first fault is one, so is what tells it
pub one_told : {F : Type 0} {memory : F} {IsFault : F → Type 0} {told : F → Outcome} →
    ((a b : F) → a ≢ memory → b ≢ memory → IsFault a → IsFault b → a ≡ b) → HasOneOutcome (TellsFault memory IsFault told)
one_told {F} {memory} {IsFault} {told} one = λ o p x y.
    x.is ∙ ap told (one x.fault y.fault x.isnt_memory y.isnt_memory x.is_fault y.is_fault) ∙ sym y.is

-- where each step has one result, so has what comes of them
pub one_end : {A : Type 0} {first : Result A Outcome → Type 0} {second : A → Outcome → Type 0} →
    IsOne first → ((a : A) → first (Ok a) → HasOneOutcome (second a)) → HasOneOutcome (Ends first second)
one_end {A} {first} {second} one rest = at
  where
    at : (o p : Outcome) → Ends first second o → Ends first second p → o ≡ p
    at o p (stops x) (stops y) = one (Err o) (Err p) x y
    at o p (stops x) (goes b went end) = absurd (one (Err o) (Ok b) x went)
    at o p (goes a went end) (stops y) = absurd (one (Ok a) (Err p) went y)
    at o p (goes a went end) (goes b too last) = rest b too o p (subst (λ (x : A). second x o) (one (Ok a) (Ok b) went too) end) last

-- ---- here and there

-- what a step gives here it gives there, where it gives one thing
pub record IsSteady {A : Type 0} (here there : Result A Outcome → Type 0) : Type 0 where
  pub same : (r : Result A Outcome) → here r → there r
  pub one : IsOne there

-- what comes here comes there, where one outcome comes
pub record IsSettled (here there : Outcome → Type 0) : Type 0 where
  pub same : (o : Outcome) → here o → there o
  pub one : HasOneOutcome there

-- a step that reads no file
pub steady : {A : Type 0} {step : Result A Outcome → Type 0} → IsOne step → IsSteady step step
steady one = record { same = λ r is. is; one = one }

-- what is answered without a file
pub settled : {end : Outcome → Type 0} → HasOneOutcome end → IsSettled end end
settled one = record { same = λ o is. is; one = one }

-- a step, and what follows it
pub followed : {A : Type 0} {first other : Result A Outcome → Type 0} {second next : A → Outcome → Type 0} →
    IsSteady first other → ((a : A) → other (Ok a) → IsSettled (second a) (next a)) →
    IsSettled (Ends first second) (Ends other next)
followed {A} {first} {other} {second} {next} step rest =
    record { same = at; one = one_end step.one (λ a went. (rest a went).one) }
  where
    at : (o : Outcome) → Ends first second o → Ends other next o
    at o (stops ended) = stops (step.same (Err o) ended)
    at o (goes a went end) = goes a (step.same (Ok a) went) ((rest a (step.same (Ok a) went)).same o end)

-- ---- steps

-- a file is read in one way
pub one_file : (name : List ℕ) (files : Files) → IsOne (Reads name files)
one_file name files = one_result (within_text (bytes_of files name))

-- no step reads one text of a mesh as two things
pub one_mesh_text : (bytes : List ℕ) → IsOne (IsMeshText bytes)
one_mesh_text bytes = one_result (refused_by off_cause (off_of bytes))

-- a surface that isn't one has one first fault
one_fault_of : (mesh : Mesh) → HasOneOutcome (EndsInFault mesh)
one_fault_of mesh = one_told (surface_faults_are_one mesh)

-- a surface has no fault
no_fault : (mesh : Mesh) (o : Outcome) → IsSurface mesh → EndsInFault mesh o → ⊥
no_fault mesh o surface ends = ends.isnt_memory (fault_only mesh ends.fault ends.is_fault surface)

pub one_surface_text : (bytes : List ℕ) → IsOne (IsSurfaceText bytes)
one_surface_text bytes (Ok a) (Ok b) x y = one_mesh_text bytes (Ok a) (Ok b) x.0 y.0
one_surface_text bytes (Ok a) (Err p) x (inl y) = one_mesh_text bytes (Ok a) (Err p) x.0 y
one_surface_text bytes (Ok a) (Err p) x (inr y) =
    no_fault a.1 p x.1 (subst (λ (read : OffParts × Mesh). EndsInFault read.1 p) (one_mesh_text bytes (Ok y.0) (Ok a) y.1 x.0) y.2)
one_surface_text bytes (Err o) (Ok b) (inl x) y = one_mesh_text bytes (Err o) (Ok b) x y.0
one_surface_text bytes (Err o) (Ok b) (inr x) y =
    no_fault b.1 o y.1 (subst (λ (read : OffParts × Mesh). EndsInFault read.1 o) (one_mesh_text bytes (Ok x.0) (Ok b) x.1 y.0) x.2)
one_surface_text bytes (Err o) (Err p) (inl x) (inl y) = one_mesh_text bytes (Err o) (Err p) x y
one_surface_text bytes (Err o) (Err p) (inl x) (inr y) = absurd (one_mesh_text bytes (Err o) (Ok y.0) x y.1)
one_surface_text bytes (Err o) (Err p) (inr x) (inl y) = absurd (one_mesh_text bytes (Ok x.0) (Err p) x.1 y)
one_surface_text bytes (Err o) (Err p) (inr x) (inr y) =
    one_fault_of y.0.1 o p
    (subst (λ (read : OffParts × Mesh). EndsInFault read.1 o) (one_mesh_text bytes (Ok x.0) (Ok y.0) x.1 y.1) x.2) y.2

pub one_surface_of : (mesh : Mesh) → IsOne (IsSurfaceOf mesh)
one_surface_of mesh (Ok a) (Ok b) x y = x.0 ∙ sym y.0
one_surface_of mesh (Ok a) (Err p) x y = no_fault mesh p x.1 y
one_surface_of mesh (Err o) (Ok b) x y = no_fault mesh o y.1 x
one_surface_of mesh (Err o) (Err p) x y = one_fault_of mesh o p x y

-- a count is at most its limit, or greater
pub one_at_most : (kind : LimitKind) (most count : ℕ) → IsOne (AtMost kind most count)
one_at_most kind most count (Ok a) (Ok b) x y = refl
one_at_most kind most count (Ok a) (Err p) x y = let over = y.0 in absurd (omega (arith, x, over))
one_at_most kind most count (Err o) (Ok b) x y = let over = x.0 in absurd (omega (arith, over, y))
one_at_most kind most count (Err o) (Err p) x y = x.1 ∙ sym y.1

pub one_base : (base : ℕ) (mesh : Mesh) → IsOne (HasBase base mesh)
one_base base mesh (Ok a) (Ok b) x y = x.0 ∙ sym y.0
one_base base mesh (Ok a) (Err p) x y = let under = x.1 in let over = y.0 in absurd (omega (arith, under, over))
one_base base mesh (Err o) (Ok b) x y = let over = x.0 in let under = y.1 in absurd (omega (arith, over, under))
one_base base mesh (Err o) (Err p) x y = x.1 ∙ sym y.1

-- a limit, and what follows it
pub within : {second next : Outcome → Type 0} (kind : LimitKind) (most count : ℕ) → IsSettled second next →
    IsSettled (Ends (AtMost kind most count) (λ _. second)) (Ends (AtMost kind most count) (λ _. next))
within kind most count rest = followed (steady (one_at_most kind most count)) (λ _ _. rest)

one_lengths : (word : List ℕ) (mesh : Mesh) (files : Files) → IsOne (HasLengths word mesh files)
one_lengths word mesh files (Ok a) (Ok b) x y = one_result (lengths_for word mesh files) (Ok a) (Ok b) x.0 y.0
one_lengths word mesh files (Ok a) (Err p) x y = one_result (lengths_for word mesh files) (Ok a) (Err p) x.0 y
one_lengths word mesh files (Err o) (Ok b) x y = one_result (lengths_for word mesh files) (Err o) (Ok b) x y.0
one_lengths word mesh files (Err o) (Err p) x y = one_result (lengths_for word mesh files) (Err o) (Err p) x y

one_walk : (file : WalkFile) (name : List ℕ) (mesh : Mesh) (files : Files) → IsOne (HasWalk file name mesh files)
one_walk file name mesh files (Ok a) (Ok b) x y = one_result (walk_named file name mesh files) (Ok a) (Ok b) x.0 y.0
one_walk file name mesh files (Ok a) (Err p) x y = one_result (walk_named file name mesh files) (Ok a) (Err p) x.0 y
one_walk file name mesh files (Err o) (Ok b) x y = one_result (walk_named file name mesh files) (Err o) (Ok b) x y.0
one_walk file name mesh files (Err o) (Err p) x y = one_result (walk_named file name mesh files) (Err o) (Err p) x y

-- ---- steps that read files

module _ (here there : Files) where
  abbrev pub Same : List ℕ → Type 0
  Same name = bytes_of here name ≡ bytes_of there name

  pub reading : (name : List ℕ) → Same name → IsSteady (Reads name here) (Reads name there)
  reading name same = record { same = λ r is. is ∙ ap within_text same; one = one_file name there }

  lengths_are : (word : List ℕ) (mesh : Mesh) → AllByRecursion Same (length_file word) →
      lengths_for word mesh here ≡ lengths_for word mesh there
  lengths_are word mesh same = at (bytes_eq word (codes "unit")) same
    where
      at : (b : Bool) → AllByRecursion Same (if b then [] else word ∷ []) →
          (if b then Ok (replicate (edge_count mesh) 1) else and_then (λ bytes. refused_by length_cause (lengths_in mesh bytes)) (within_text (bytes_of here word)))
          ≡ (if b then Ok (replicate (edge_count mesh) 1) else and_then (λ bytes. refused_by length_cause (lengths_in mesh bytes)) (within_text (bytes_of there word)))
      at true none = refl
      at false one = ap (λ found. and_then (λ bytes. refused_by length_cause (lengths_in mesh bytes)) (within_text found)) one.0

  lengths_same : (word : List ℕ) (mesh : Mesh) → AllByRecursion Same (length_file word) → (r : Result (List ℕ) Outcome) →
      HasLengths word mesh here r → HasLengths word mesh there r
  lengths_same word mesh same (Ok lengths) is = (is.0 ∙ lengths_are word mesh same, is.1, is.2)
  lengths_same word mesh same (Err o) is = is ∙ lengths_are word mesh same

  pub has_lengths : (word : List ℕ) (mesh : Mesh) → AllByRecursion Same (length_file word) →
      IsSteady (HasLengths word mesh here) (HasLengths word mesh there)
  has_lengths word mesh same = record { same = lengths_same word mesh same; one = one_lengths word mesh there }

  walk_is : (file : WalkFile) (name : List ℕ) (mesh : Mesh) → Same name → walk_named file name mesh here ≡ walk_named file name mesh there
  walk_is file name mesh same = ap (λ found. and_then (λ bytes. refused_by (walk_cause file) (walk_in mesh bytes)) (within_text found)) same

  walk_same : (file : WalkFile) (name : List ℕ) (mesh : Mesh) → Same name → (r : Result (List ℕ) Outcome) →
      HasWalk file name mesh here r → HasWalk file name mesh there r
  walk_same file name mesh same (Ok walk) is = (is.0 ∙ walk_is file name mesh same, is.1)
  walk_same file name mesh same (Err o) is = is ∙ walk_is file name mesh same

  pub walked : (file : WalkFile) (name : List ℕ) (mesh : Mesh) → Same name →
      IsSteady (HasWalk file name mesh here) (HasWalk file name mesh there)
  walked file name mesh same = record { same = walk_same file name mesh same; one = one_walk file name mesh there }

  -- the surface of a file, and what follows it
  pub of_surface : (mesh : List ℕ) → Same mesh → {second next : OffParts × Mesh → Outcome → Type 0} →
      ((read : OffParts × Mesh) → IsSurface read.1 → IsSettled (second read) (next read)) →
      IsSettled (Ends (Reads mesh here) (λ bytes. Ends (IsSurfaceText bytes) second))
      (Ends (Reads mesh there) (λ bytes. Ends (IsSurfaceText bytes) next))
  of_surface mesh same rest =
      followed (reading mesh same) (λ bytes _. followed (steady (one_surface_text bytes)) (λ read is. rest read is.1))

  -- how far a surface is cut, by words and a file of vertices
  pub told_kind : (extent : Extent) (mesh : Mesh) → AllByRecursion Same (point_file extent) →
      IsSteady (HasKind extent mesh here) (HasKind extent mesh there)
  told_kind extent mesh same = record { same = λ r is. is ∙ kind_same extent same; one = one_result (kind_named extent mesh there) }
    where
      kind_same : (extent : Extent) → AllByRecursion Same (point_file extent) → kind_named extent mesh here ≡ kind_named extent mesh there
      kind_same fully same = refl
      kind_same trimmed_words same = refl
      kind_same (through_words name) same =
          ap (λ found. and_then (λ bytes. and_then (λ points. Ok (through points)) (refused_by point_cause (points_in mesh bytes))) (within_text found)) same.0
