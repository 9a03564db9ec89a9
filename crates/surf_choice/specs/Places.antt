-- Places of candidates in the order of length and base, and the place before which others are sought.
use Rattle.std.specs.Prelude.{ℕ, ◌+◌, ◌*◌, ◌^◌, nat_le, Bool, true, List, [], ◌∷◌, length, Option, Some, None}
use Rattle.std.specs.Prelude.{if◌then◌else◌}
use Rattle.surf_surfaces.specs.FewBases.{Place, comes_sooner, is_no_later}
use Rattle.surf_choice.specs.declared.candidate.Candidate.{Candidate}
use Rattle.surf_choice.specs.declared.candidate.Signed.{Signed}
use Rattle.surf_choice.specs.Candidates.{Chosen}

abbrev pub place_of : Candidate → Place
place_of c = (c.length, c.base)

-- whether it comes no later than another, by length and then by base
abbrev pub stands_before : Signed → Signed → Bool
stands_before c d = is_no_later (place_of c.candidate) (place_of d.candidate)

-- a place comes before a limit, if there is one
abbrev pub is_sought : Option Candidate → Place → Bool
is_sought None place = true
is_sought (Some c) place = comes_sooner (place_of c) place

-- the last of some candidates
abbrev pub last_of : List Signed → Option Candidate
last_of [] = None
last_of (s ∷ []) = Some s.candidate
last_of (s ∷ r ∷ rest) = last_of (r ∷ rest)

-- the last of those kept, where as many are kept as may be
abbrev pub limit_of : Chosen → Option Candidate
limit_of choice = if nat_le choice.width (length choice.kept) then last_of choice.kept else None

-- a number that is greater for a later place, and at one place for a greater edge number
abbrev pub order_of : Signed → ℕ
order_of s = s.candidate.length * 2 ^ 64 + s.candidate.base * 2 ^ 32 + s.candidate.edge
