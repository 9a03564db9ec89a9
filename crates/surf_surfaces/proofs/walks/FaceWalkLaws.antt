-- The signatures of a face's sides sum to nothing, since the walk round the face is the face's boundary.
use Rattle.surf_surfaces.proofs.Common.{◌≡◌, ℕ, ◌<◌, true, eqb, List, [], ◌∷◌, ◌++◌, map, refl, sym, ap, ◌∙◌, arith, subst, Contains, AllByRecursion, recursion_from_All, All-from_recursion, numbers, sum_of, Mesh, IsFace, pair_of, sides, edges, among, face_count, face_at, ends, has_side, IsSurface, IsClosed, edge_number, IsNull}
use Rattle.surf_surfaces.specs.Signature.{edge_signature, FacesSumToZero}
use Rattle.surf_surfaces.proofs.meshes.CellLaws.{face_sides}
use Rattle.surf_surfaces.proofs.meshes.EdgeLaws.{contains_from_among}
use Rattle.surf_surfaces.proofs.walks.EvenLaws.{last_push}
use Rattle.surf_surfaces.proofs.meshes.FaceLaws.{all_push, has_side-odd}
use Rattle.surf_surfaces.proofs.classes.LeastLaws.{all_each}
use Rattle.surf_surfaces.proofs.classes.SignatureLaws.{null_by_signature}
use Rattle.surf_surfaces.proofs.meshes.SurfaceLaws.{sides_are_edges}

module _ (mesh : Mesh) (surface : IsSurface mesh) (f : ℕ) (in' : f < face_count mesh) (u : ℕ) (rest : List ℕ)
    (is : face_at mesh f ≡ u ∷ rest) where
  face : IsFace mesh.vertices (u ∷ rest)
  face = subst (IsFace mesh.vertices) is (surface.is_mesh f [] in')

  along : AllByRecursion (λ s. Contains (edges mesh) (pair_of s)) (sides (u ∷ rest))
  along = subst (λ face. AllByRecursion (λ s. Contains (edges mesh) (pair_of s)) (sides face)) is
      (all_each (λ s. among (pair_of s) (edges mesh) ≡ true) (λ s. Contains (edges mesh) (pair_of s))
      (sides (face_at mesh f)) (λ s has. contains_from_among (pair_of s) (edges mesh) has)
      (sides_are_edges mesh f in'))

  corners : AllByRecursion (λ v. v < mesh.vertices) (u ∷ rest)
  corners = recursion_from_All (λ v. v < mesh.vertices) (u ∷ rest) face.inside

  pub round_closed : IsClosed mesh (u ∷ (rest ++ u ∷ []))
  round_closed = record {
    is_walk = record {
      begins = omega arith;
      vertices = All-from_recursion (λ v. v < mesh.vertices) (u ∷ (rest ++ u ∷ []))
          (corners.0, all_push (λ v. v < mesh.vertices) rest u corners.1 corners.0);
      along_edges = All-from_recursion (λ s. Contains (edges mesh) (pair_of s)) (sides (u ∷ rest)) along;
    };
    returns = sym (last_push u u rest);
  }

  pub round_null : IsNull mesh (u ∷ (rest ++ u ∷ []))
  round_null = (
    (λ g. eqb g f),
    λ e e_in.
        sym (has_side-odd mesh.vertices (ends mesh e) (u ∷ rest) face)
        ∙ ap (has_side (ends mesh e)) (sym is) ∙ sym (face_sides mesh surface f e e_in),
  )

pub faces_sum_to_zero : FacesSumToZero
faces_sum_to_zero mesh d surface split f in' = by_corners (face_at mesh f) refl
  where
    by_corners : (corners : List ℕ) → face_at mesh f ≡ corners →
        sum_of numbers (map (λ s. edge_signature mesh d (edge_number mesh s)) (sides corners)) ≡ 0
    by_corners [] is = refl
    by_corners (u ∷ rest) is =
        (null_by_signature mesh d surface split (u ∷ (rest ++ u ∷ []))
        (round_closed mesh surface f in' u rest is)).0 (round_null mesh surface f in' u rest is)
