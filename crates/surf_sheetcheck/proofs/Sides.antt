-- The sides of a face by their numbers.
use Rattle.surf_surfaces.proofs.Common.{◌≡◌, ℕ, ◌<◌, ◌+◌, length, get_or, sym, ap, ◌∙◌, Mesh, sides, pair_of, edges, face_count, face_at, edge_number, place_of, first_side}
use Rattle.surf_surfaces.specs.SideNumber.{IsEdgeOf}
use Rattle.surf_surfaces.proofs.meshes.EdgeLaws.{place_of-ends}
use Rattle.surf_surfaces.proofs.meshes.SideLaws.{sides_are_by_place}
use Rattle.surf_soup.proofs.SideNumbers.{pair_at_place}

-- the edge of a side is that of the step at its place
pub side_edge : (mesh : Mesh) (f k e : ℕ) → f < face_count mesh → k < length (face_at mesh f) →
    IsEdgeOf mesh (first_side mesh f + k) e → e ≡ edge_number mesh (get_or (sides (face_at mesh f)) k (0, 0))
side_edge mesh f k e lf lk is =
    sym (place_of-ends mesh e is.is_edge)
    ∙ ap (λ p. place_of p (edges mesh)) (is.its_ends ∙ pair_at_place mesh f k lf lk
    ∙ sym (ap pair_of (sides_are_by_place (face_at mesh f) k lk)))
