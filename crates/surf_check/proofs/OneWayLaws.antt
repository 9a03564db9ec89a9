-- Where no side begins with its mate, all faces run the same way.
use Rattle.surf_surfaces.proofs.Common.{◌≡◌, ◌∙◌, ◌<◌, ℕ, false, eqb, List, get_or, refl, sym, ap, eq-eqb, ne_eqb, true≢false, xor, Mesh, edges, IsSurface, side_count, pair_at, owners, IsEdgeOf, place_of}
use Rattle.surf_surfaces.proofs.meshes.EdgeLaws.{place_of-among}
use Rattle.surf_orientation.specs.Chains.{misfit}
use Rattle.surf_orientation.proofs.OneSidedLaws.{orientations_fit}
use Rattle.surf_soup.specs.Half.{AreAllMates}
use Rattle.surf_soup.specs.Vertices.{all_corners}
use Rattle.surf_soup.proofs.EdgeTables.{pair_at-edge}
use Rattle.surf_soup.proofs.HalfLaws.{face_of_side}
use Rattle.surf_check.specs.Kinds.{RunOneWay, BeginsWithMate, NoneBeginWithMates}
use Rattle.surf_check.proofs.Misfits.{misfit_at, misfit_where, all_fit}

module _ (mesh : Mesh) (surface : IsSurface mesh) (mate : List ℕ) (mates : AreAllMates mesh mate) where
  -- whether a side begins with its mate tells whether its edge fits
  begins_or_fits : (s e : ℕ) → s < side_count mesh → IsEdgeOf mesh s e →
      xor (xor false false) (eqb (get_or (all_corners mesh) s 0) (get_or (all_corners mesh) (get_or mate s 0) 0))
      ≡ misfit mesh (λ _. false) e
  begins_or_fits s e lt is =
      let t = get_or mate s 0 in
      let m = mates.mates s lt in
      misfit_at mesh surface (λ _. false) s t (get_or (owners 0 mesh.faces) s 0) (get_or (owners 0 mesh.faces) t 0) e
      (get_or (all_corners mesh) s 0) (get_or (all_corners mesh) t 0) m
      (face_of_side mesh (owners 0 mesh.faces) s 0 refl lt)
      (face_of_side mesh (owners 0 mesh.faces) t 0 refl m.is_side) is (lt, refl) (m.is_side, refl)

  pub one_way : NoneBeginWithMates mesh mate → RunOneWay mesh
  one_way apart = all_fit mesh surface (λ _. false) (λ s e lt is.
      sym (begins_or_fits s e lt is)
      ∙ ap (xor (xor false false)) (ne_eqb (get_or (all_corners mesh) s 0)
      (get_or (all_corners mesh) (get_or mate s 0) 0) (λ same. apart s lt (sym same))))

  pub not_one_way : (s : ℕ) → s < side_count mesh → BeginsWithMate mesh mate s → RunOneWay mesh → ⊥
  not_one_way s lt same runs =
      let at = place_of-among (pair_at mesh s) (edges mesh) (0, 0) (pair_at-edge mesh s lt) in
      let e = place_of (pair_at mesh s) (edges mesh) in
      let is : IsEdgeOf mesh s e = record { is_edge = at.0; its_ends = at.1 } in
      let fits = (orientations_fit mesh (λ _. false) surface).0 runs e at.0 in
      true≢false (sym (ap (xor (xor false false)) (eq-eqb (get_or (all_corners mesh) s 0)
      (get_or (all_corners mesh) (get_or mate s 0) 0) (sym same)))
      ∙ (begins_or_fits s e lt is ∙ misfit_where mesh (λ _. false) e fits))
