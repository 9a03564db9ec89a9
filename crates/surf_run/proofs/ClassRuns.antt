-- What `class` writes is confirmed.
use Rattle.surf_answers.proofs.Common.{◌≡◌, ◌≤◌, ℕ, List, [], ◌∷◌, length, Some, None, Ok, refl, sym, ap, ◌∙◌, subst, arith, inl, codes, Mesh, face_count, edge_count, loop_count, Loops, evidence_text, Evidence, GivesClass, Outcome, answers, refused_by}
use Rattle.surf_answers.proofs.Commands.{Files, bytes_of, evidence_in, OffParts, off_of, evidence_cause, right_line}
use Rattle.surf_answers.proofs.Commands.{off_cause, Reads, IsSurfaceText, HasWalk, goes, First}
use Rattle.surf_run.proofs.Common.{Answer}
use Rattle.surf_class.proofs.Rereading.{evidence_again}
use Rattle.surf_run.specs.Leads.{Leads}
use Rattle.surf_run.specs.TwoRuns.{ClassesAreConfirmed}
use Rattle.surf_words.specs.Words.{request_of}
use Rattle.surf_run.proofs.ClassSizes.{evidence_fits, evidence_short}
use Rattle.surf_run.proofs.CycleLaws.{few_loops}
use Rattle.surf_run.proofs.Refusing.{reads_refuses, surface_refuses, limit_refuses, walk_refuses, goes_on, shown_low, shown_text}
use Rattle.surf_run.proofs.TextLaws.{mesh_texts_are_few}
use Rattle.surf_run.proofs.TwoRuns.{read_back, read_again, answered_there}

-- ---- the law

module _ (files : Files) (mesh walk cert text : List ℕ) (held : bytes_of files cert ≡ Some text)
    (o : Outcome) (bytes : List ℕ) (reads : Reads mesh files (Ok bytes)) (read : OffParts × Mesh)
    (surface : IsSurfaceText bytes (Ok read)) (few_loops_are : loop_count read.1 ≤ 1024) (w : List ℕ) (has : HasWalk First walk read.1 files (Ok w))
    (gives : GivesClass read.1 w None o) (text_is : text ≡ evidence_text (codes "null") (codes "odd") gives.evidence) where
  few : (read.1.vertices ≤ 1000000) × (face_count read.1 ≤ 2000000) × (edge_count read.1 ≤ 3001022)
  few =
      let counts = mesh_texts_are_few bytes read (read_back off_cause read (off_of bytes) surface.0) in
      let vertices : read.1.vertices ≤ 1000000 = counts.0 in
      let faces : face_count read.1 ≤ 2000000 = counts.1 in
      let loops = few_loops read.1 few_loops_are in
      (vertices, faces, omega (arith, vertices, faces, loops))

  -- the evidence isn't too long to be read
  short : length text ≤ 268435456
  short = subst (λ (t : List ℕ). length t ≤ 268435456) (sym text_is)
      (evidence_short read.1 surface.1.is_mesh few.0 few.1 few.2 _ gives.evidence gives.right)

  evidence_is : Ok gives.evidence ≡ refused_by evidence_cause (evidence_in text)
  evidence_is =
      let fit = evidence_fits read.1 surface.1.is_mesh few.0 few.1 few.2 _ gives.evidence gives.right in
      sym (ap (λ (t : List ℕ). refused_by evidence_cause (evidence_in t)) text_is ∙ ap (refused_by evidence_cause) (evidence_again gives.evidence fit))

  confirmed : Answer (codes "confirm" ∷ mesh ∷ walk ∷ cert ∷ []) files 0 (right_line gives.evidence) []
  unfolding Leads request_of
  confirmed = (
    answers 0 (right_line gives.evidence),
    goes bytes reads (goes read surface (goes w has (goes text (read_again files cert text held short)
        (goes gives.evidence evidence_is (inl (gives.right, refl)))))),
    (refl, refl, refl),
  )

-- over the files that were read
confirmed_there : (files : Files) (mesh walk cert text : List ℕ) → Answer (codes "class" ∷ mesh ∷ walk ∷ []) files 0 text [] →
    bytes_of files cert ≡ Some text →
    (evidence : Evidence) × (text ≡ evidence_text (codes "null") (codes "odd") evidence)
    × Answer (codes "confirm" ∷ mesh ∷ walk ∷ cert ∷ []) files 0 (right_line evidence) []
unfolding Leads request_of
confirmed_there files mesh walk cert text (o, leads, shows) held =
    let low = shown_low o text [] shows in
    let (bytes, reads, on_text) = goes_on o leads (reads_refuses mesh files) low in
    let (read, surface, on_surface) = goes_on o on_text (surface_refuses bytes) low in
    let (_, few, on_few) = goes_on o on_surface (limit_refuses Loops 1024 (loop_count read.1)) low in
    let (w, has, gives) = goes_on o on_few (walk_refuses First walk read.1 files) low in
    let text_is = shown_text (evidence_text (codes "null") (codes "odd") gives.evidence) o text gives.says shows in
    (gives.evidence, text_is, confirmed files mesh walk cert text held o bytes reads read surface few w has gives text_is)

pub classes_are_confirmed : ClassesAreConfirmed
unfolding request_of
classes_are_confirmed files later mesh walk cert text answer same held =
    confirmed_there later mesh walk cert text (answered_there (codes "class" ∷ mesh ∷ walk ∷ []) files later text answer same) held
