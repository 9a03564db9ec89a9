-- Counts that are greater than their limits.
use Rattle.std.specs.Prelude.{ℕ, List, ◌++◌, codes}
use Rattle.surf_base.specs.declared.limits.LimitKind.{LimitKind}
use Rattle.surf_base.specs.declared.limits.LimitKind.TheVariants.{Text, Vertices, Faces, Sides, Loops, BasisVertices}
use Rattle.surf_base.specs.declared.limits.LimitKind.TheVariants.{CertificateVertices, Answer, CoverLoops, CoverNodes}
use Rattle.surf_texts.specs.Outcome.{Outcome, refuses}

-- the name of a limit
abbrev pub limit_name : LimitKind → List ℕ
limit_name Text = codes "text"
limit_name Vertices = codes "vertices"
limit_name Faces = codes "faces"
limit_name Sides = codes "sides"
limit_name Loops = codes "loops"
limit_name BasisVertices = codes "basis-vertices"
limit_name CertificateVertices = codes "certificate-vertices"
limit_name Answer = codes "answer"
limit_name CoverLoops = codes "cover-loops"
limit_name CoverNodes = codes "cover-nodes"

-- a count is greater than its limit
abbrev pub beyond : LimitKind → Outcome
beyond kind = refuses 6 (codes "limit: " ++ limit_name kind ++ codes "\n")
