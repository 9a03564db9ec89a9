-- Finders that go ahead of others, and by how much.
use Rattle.std.specs.Prelude.{ℕ, ◌≡◌, ◌+◌, ◌-◌, ◌/◌, min, Bool, List, Option, Some, None}
use Rattle.surf_firsts.specs.Near.{AgreeOff}
use Rattle.surf_choice.specs.declared.candidate.Candidate.{Candidate}
use Rattle.surf_finder.specs.Found.{SurfaceTables}
use Rattle.surf_finder.specs.Passing.{is_marked}

-- a limit that is farther by a sixteenth, as far as a length goes
abbrev pub widened : Candidate → Candidate
widened c = record { length = min (c.length + c.length / 16) 18446744073709551615; base = c.base; edge = c.edge }

-- by how much a limit is longer than another one
abbrev pub spare_of : Option Candidate → Option Candidate → ℕ
spare_of (Some c) (Some d) = d.length - c.length
spare_of None wide = 0
spare_of (Some c) None = 0

-- a finder has the lengths of another one at all edges that have no marked end, and the lengths before any vertex was
-- barred are the same
pub record IsAhead (f scout : SurfaceTables) (marks : List Bool) : Type 0 where
  pub mesh : scout.mesh ≡ f.mesh
  pub signs : scout.signs ≡ f.signs
  pub given : scout.given ≡ f.given
  pub off : AgreeOff f.mesh f.lengths scout.lengths (is_marked marks)
