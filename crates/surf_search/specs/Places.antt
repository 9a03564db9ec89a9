-- The lengths and bases of loops that were found.
use Rattle.std.specs.Prelude.{ℕ, ◌==◌, Bool, List, length, map, filter, IsTrue, All}
use Rattle.std.specs.List.{list_any}
use Rattle.surf_surfaces.specs.Mesh.{Mesh}
use Rattle.surf_surfaces.specs.FewBases.{Place, place_of_loop}
use Rattle.surf_choice.specs.declared.candidate.Signed.{Signed}
use Rattle.surf_surfaces.specs.Choice.{Trees, AreChosen, Loop, IsChosenBasis}

-- the lengths of those candidates that are at a base
abbrev pub lengths_at : List Signed → ℕ → List ℕ
lengths_at found base = map (λ s. s.candidate.length) (filter (λ s. s.candidate.base == base) found)

abbrev pub has_length : List ℕ → ℕ → Bool
has_length lengths length = list_any (λ n. n == length) lengths

-- a place is that of one of some candidates
abbrev pub is_placed : List Signed → Place → Bool
is_placed found place = has_length (lengths_at found place.1) place.0

-- each loop of the basis that is chosen has the length and the base of one of some candidates, whichever trees show the
-- choice
abbrev pub HavePlacesOfBasis : Mesh → List ℕ → List Signed → Type 0
HavePlacesOfBasis mesh lengths found = (trees : ℕ → Trees) → AreChosen mesh lengths trees → (basis : List Loop) →
    IsChosenBasis mesh lengths trees basis → All (λ c. IsTrue (is_placed found (place_of_loop c))) basis
