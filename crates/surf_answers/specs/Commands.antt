-- The commands: what comes of each over named files, and which files it names.
use Rattle.std.specs.Prelude.{◌≡◌, ℕ, List, [], ◌∷◌, ◌++◌, Option, Some, None, if◌then◌else◌, codes}
use Rattle.std.specs.Str.{bytes_eq}
use Rattle.surf_base.specs.Outside.{Files}
use Rattle.surf_base.specs.declared.limits.LimitKind.TheVariants.{Loops, BasisVertices}
use Rattle.surf_base.specs.declared.limits.LimitKind.TheVariants.{CertificateVertices}
use Rattle.surf_gen.specs.Made.{made_values}
use Rattle.surf_surfaces.specs.Surface.{loop_count}
use Rattle.surf_words.specs.Shapes.{mesh_of}
use Rattle.surf_words.specs.Words.{Request, help, version, info, dist, loops, basis, cycle, cut, sew, disc, class, same}
use Rattle.surf_words.specs.Words.{large_basis, large_cycle, large_shortest}
use Rattle.surf_words.specs.Words.{confirm, shortest, certify_loops, certify_basis, check, lengths, gen_shape, try_shape}
use Rattle.surf_words.specs.Words.{Extent, fully, trimmed, through, help_text, version_text}
use Rattle.surf_texts.specs.Cause.{misused}
use Rattle.surf_texts.specs.Outcome.{Outcome, answers}
use Rattle.surf_texts.specs.declared.walks.WalkFile.TheVariants.{First, Second}
use Rattle.surf_answers.specs.Certificates.{GivesBasisCert, GivesLoopCert}
use Rattle.surf_answers.specs.Classes.{GivesClass}
use Rattle.surf_answers.specs.Confirming.{JudgesEvidence}
use Rattle.surf_answers.specs.Lengths.{GivesLengths, Measures}
use Rattle.surf_answers.specs.Cuts.{CutsAt, GivesOpened}
use Rattle.surf_answers.specs.Discs.{JudgesDisc}
use Rattle.surf_answers.specs.Distances.{GivesDistances}
use Rattle.surf_answers.specs.Info.{Informs}
use Rattle.surf_answers.specs.LeastBasis.{GivesBasis}
use Rattle.surf_answers.specs.LeastLoops.{GivesLoops}
use Rattle.surf_answers.specs.Making.{GivesMesh}
use Rattle.surf_answers.specs.ShortestCycle.{GivesCycle}
use Rattle.surf_answers.specs.Summaries.{GivesSummary}
use Rattle.surf_answers.specs.ShortestWalk.{GivesShortestWalk}
use Rattle.surf_answers.specs.Verdicts.{JudgesCert}
use Rattle.surf_answers.specs.Fronts.{OnText, OnSurface, OnFewLoops, OnMeasured, OnBased, OnSmall, OnCovered, OnMesh}
use Rattle.surf_answers.specs.Reading.{Reads, HasLengths, HasBase, HasWalk, IsCertText}
use Rattle.surf_answers.specs.Reading.{tree_count, HasKind, IsEvidenceText}
use Rattle.surf_answers.specs.SewingSteps.{HasOrigins, IsSewn, OnSewnMesh}
use Rattle.surf_answers.specs.Steps.{◌>>=◌, ◌>>◌, AtMost}

-- What comes of a request over named files: its steps, in their order, and what is answered after the last.
abbrev pub OnRequest : Option Request → Files → Outcome → Type 0
OnRequest None files = λ outcome. outcome ≡ misused
OnRequest (Some help) files = λ outcome. outcome ≡ answers 0 help_text
OnRequest (Some version) files = λ outcome. outcome ≡ answers 0 version_text
OnRequest (Some (info mesh)) files = OnSurface mesh files (λ read. Informs read.1)
OnRequest (Some (dist mesh word base)) files = OnSurface mesh files (λ read. do
  values ← HasLengths word read.1 files
  vertex ← HasBase base read.1
  GivesDistances read.1 values vertex)
OnRequest (Some (loops mesh word base)) files = OnBased mesh word base files (λ read. GivesLoops read.1)
OnRequest (Some (basis mesh word)) files = OnSmall BasisVertices 20000 mesh word files (λ read. GivesBasis read.1)
OnRequest (Some (cycle mesh word)) files = OnSmall BasisVertices 20000 mesh word files (λ read. GivesCycle read.1)
OnRequest (Some (large_basis mesh word)) files = OnMeasured mesh word files (λ read. GivesBasis read.1)
OnRequest (Some (large_cycle mesh word)) files = OnMeasured mesh word files (λ read. GivesCycle read.1)
OnRequest (Some (cut extent mesh word base)) files = OnBased mesh word base files (λ read values vertex. do
  kind ← HasKind extent read.1 files
  opened ← CutsAt kind read.1 values vertex
  GivesOpened read.0 opened)
OnRequest (Some (sew mesh)) files = OnText mesh files (λ bytes read. do
  origins ← HasOrigins bytes read.1.vertices
  sewn ← IsSewn read origins
  OnSewnMesh read origins sewn)
OnRequest (Some (disc mesh)) files = OnText mesh files (λ bytes read. JudgesDisc read.1)
OnRequest (Some (class mesh walk)) files = OnFewLoops mesh files (λ read. do
  closed ← HasWalk First walk read.1 files
  GivesClass read.1 closed None)
OnRequest (Some (same mesh first second)) files = OnFewLoops mesh files (λ read. do
  closed ← HasWalk First first read.1 files
  other ← HasWalk Second second read.1 files
  GivesClass read.1 closed (Some other))
OnRequest (Some (confirm mesh walk cert)) files = OnSurface mesh files (λ read. do
  closed ← HasWalk First walk read.1 files
  text ← Reads cert files
  evidence ← IsEvidenceText text
  JudgesEvidence read.1 closed evidence)
OnRequest (Some (shortest mesh word walk)) files = OnCovered 8 65536 mesh word walk files (λ read. GivesShortestWalk read.1)
OnRequest (Some (large_shortest mesh word walk)) files =
    OnCovered 16 16777216 mesh word walk files (λ read. GivesShortestWalk read.1)
OnRequest (Some (certify_loops mesh word base)) files = OnBased mesh word base files (λ read. GivesLoopCert read.1)
OnRequest (Some (certify_basis mesh word)) files =
    OnSmall CertificateVertices 1000 mesh word files (λ read. GivesBasisCert read.1)
OnRequest (Some (check mesh word cert)) files = OnMeasured mesh word files (λ read values. do
  text ← Reads cert files
  certificate ← IsCertText text
  AtMost CertificateVertices 1000 (tree_count read.1 certificate)
  JudgesCert read.1 values certificate)
OnRequest (Some (lengths mesh decimals)) files = OnSurface mesh files (λ read. do
  values ← Measures decimals read
  GivesLengths read.1 values)
OnRequest (Some (gen_shape shape)) files = OnMesh (mesh_of shape) (GivesMesh (mesh_of shape))
OnRequest (Some (try_shape shape scatter)) files = OnMesh (mesh_of shape) (do
  AtMost Loops 1024 (loop_count (mesh_of shape))
  AtMost BasisVertices 20000 (mesh_of shape).vertices
  GivesSummary (mesh_of shape) (made_values (mesh_of shape) scatter))

-- the file of the lengths that a word gives, where it isn't `unit`
abbrev pub length_file : List ℕ → List (List ℕ)
length_file word = if bytes_eq word (codes "unit") then [] else word ∷ []

-- the file of the vertices that a cut is to go through, where there is one
abbrev pub point_file : Extent → List (List ℕ)
point_file fully = []
point_file trimmed = []
point_file (through points) = points ∷ []

-- the files that a request names
abbrev pub named : Option Request → List (List ℕ)
named (Some (info mesh)) = mesh ∷ []
named (Some (dist mesh word base)) = mesh ∷ length_file word
named (Some (loops mesh word base)) = mesh ∷ length_file word
named (Some (basis mesh word)) = mesh ∷ length_file word
named (Some (cycle mesh word)) = mesh ∷ length_file word
named (Some (large_basis mesh word)) = mesh ∷ length_file word
named (Some (large_cycle mesh word)) = mesh ∷ length_file word
named (Some (cut extent mesh word base)) = mesh ∷ point_file extent ++ length_file word
named (Some (sew mesh)) = mesh ∷ []
named (Some (disc mesh)) = mesh ∷ []
named (Some (class mesh walk)) = mesh ∷ walk ∷ []
named (Some (same mesh first second)) = mesh ∷ first ∷ second ∷ []
named (Some (confirm mesh walk cert)) = mesh ∷ walk ∷ cert ∷ []
named (Some (shortest mesh word walk)) = mesh ∷ walk ∷ length_file word
named (Some (large_shortest mesh word walk)) = mesh ∷ walk ∷ length_file word
named (Some (certify_loops mesh word base)) = mesh ∷ length_file word
named (Some (certify_basis mesh word)) = mesh ∷ length_file word
named (Some (check mesh word cert)) = mesh ∷ cert ∷ length_file word
named (Some (lengths mesh decimals)) = mesh ∷ []
named request = []
