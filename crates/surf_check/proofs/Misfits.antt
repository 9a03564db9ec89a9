-- Flags that don't fit an edge, and the chain that the edge closes.
use Rattle.surf_surfaces.proofs.Common.{◌≡◌, ℕ, zero, suc, ◌<◌, ◌==◌, ◌++◌, Bool, false, eqb, List, [], ◌∷◌, get_or, refl, sym, ap, ◌∙◌, inl, inr, cases_Bool, xor_equal, Tree, Mesh, edge_count, ends, faces_of, IsSurface, IsOrientation, Link, side_count, sides_with, IsFaceOf, IsEdgeOf, IsMate}
use Rattle.std.proofs.lemmas.List.{append_assoc}
use Rattle.surf_z2.specs.Parity.{xor, xor_comm}
use Rattle.surf_orientation.specs.Chains.{same_way, Fits, misfit, links_down}
use Rattle.surf_orientation.proofs.OneSidedLaws.{orientations_fit}
use Rattle.surf_soup.specs.Ring.{BeginsAt}
use Rattle.surf_soup.proofs.Mates.{with_pair}
use Rattle.surf_soup.proofs.Paired.{side_below, row_some}
use Rattle.surf_check.proofs.SideWays.{mates_faces, mates_ways}

-- whether flags fit an edge is told at one of its sides
pub misfit_at : (mesh : Mesh) → IsSurface mesh → (flags : ℕ → Bool) (s t f g e u v : ℕ) → IsMate mesh s t →
    IsFaceOf mesh s f → IsFaceOf mesh t g → IsEdgeOf mesh s e → BeginsAt mesh u s → BeginsAt mesh v t →
    xor (xor (flags f) (flags g)) (eqb u v) ≡ misfit mesh flags e
misfit_at mesh surface flags s t f g e u v m a b h x y =
    let w = mates_ways mesh surface s t f g e u v m a b h x y in
    rw (sym w) (ap (λ z. xor z (same_way mesh e)) (elim (mates_faces mesh surface s t f g e m a b h) [
      | inl q ↦ rw (q.0, q.1) refl
      | inr q ↦ rw (q.0, q.1) (xor_comm (flags f) (flags g))
    ]))

pub fits_where : (mesh : Mesh) (flags : ℕ → Bool) (e : ℕ) → misfit mesh flags e ≡ false → Fits mesh flags e
fits_where mesh flags e h =
    xor_equal (xor (flags (faces_of mesh e).0) (flags (faces_of mesh e).1)) (same_way mesh e) h

pub misfit_where : (mesh : Mesh) (flags : ℕ → Bool) (e : ℕ) → Fits mesh flags e → misfit mesh flags e ≡ false
misfit_where mesh flags e h = ap (λ z. xor z (same_way mesh e)) h
    ∙ Rattle.surf_z2.specs.Parity.xor-same (same_way mesh e)

-- an edge has a side
pub edge_side : (mesh : Mesh) (e : ℕ) → e < edge_count mesh → (s : ℕ) × (s < side_count mesh) × IsEdgeOf mesh s e
edge_side mesh e lt =
    let row = row_some mesh e lt in
    let s = get_or (sides_with mesh (ends mesh e)) 0 0 in (
      s,
      side_below mesh (ends mesh e) 0 0 row,
      record { is_edge = lt; its_ends = sym (with_pair mesh (ends mesh e) 0 row) },
    )

-- flags that fit the edge of each side are a turning
pub all_fit : (mesh : Mesh) → IsSurface mesh → (flags : ℕ → Bool) →
    ((s e : ℕ) → s < side_count mesh → IsEdgeOf mesh s e → misfit mesh flags e ≡ false) → IsOrientation mesh flags
all_fit mesh surface flags h =
    (orientations_fit mesh flags surface).1 (λ e lt. let r =
    edge_side mesh e lt in fits_where mesh flags e (h r.0 e r.1 r.2))

-- the links down to a face stand before the rest of a chain
pub down_then : (mesh : Mesh) (t : Tree) (steps f : ℕ) (rest : List Link) →
    links_down mesh t steps f rest ≡ links_down mesh t steps f [] ++ rest
down_then mesh t zero f rest = refl
down_then mesh t (suc steps) f rest = elim (cases_Bool (f == t.root)) [
  | inl e ↦ rw e refl
  | inr e ↦
      let link : Link = record { face = t.parent f; ends = ends mesh (t.up f) } in
      let p = t.parent f in
      rw e (down_then mesh t steps p (link ∷ rest)
      ∙ sym (append_assoc (links_down mesh t steps p []) (link ∷ []) rest)
      ∙ ap (λ xs. xs ++ rest) (sym (down_then mesh t steps p (link ∷ []))))
]
