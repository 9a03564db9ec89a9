-- The faces of an edge by its least side and the mate of that.
use Rattle.surf_surfaces.proofs.Common.{◌≡◌, ◌≢◌, ℕ, ◌<◌, List, length, get_or, map, refl, sym, ap, ◌∙◌, arith, get_or-map, Mesh, IsMesh, edges, edge_count, ends, faces_with, faces_of, side_count, pair_at, owners, sides_with}
use Rattle.surf_soup.specs.Half.{AreAllMates}
use Rattle.surf_soup.specs.Pairing.{least_side}
use Rattle.surf_soup.specs.Pairs.{HasTwoFaces}
use Rattle.surf_soup.proofs.ApartLaws.{two_sides}
use Rattle.surf_soup.proofs.Mates.{with_pair, with_rising}
use Rattle.surf_soup.proofs.Paired.{side_below, row_is, row_degree, face_at_place}
use Rattle.surf_soup.proofs.SideNumbers.{of_edge}

module _ (mesh : Mesh) (is_mesh : IsMesh mesh) (two : HasTwoFaces mesh) (first mate : List ℕ)
    (first_are : first ≡ map (least_side mesh) (edges mesh)) (mates : AreAllMates mesh mate) (e : ℕ)
    (lt : e < edge_count mesh) where
  size : length (sides_with mesh (ends mesh e)) ≡ 2
  size =
      let rows = map (sides_with mesh) (edges mesh) in
      let os = owners 0 mesh.faces in
      sym (ap length (row_is mesh is_mesh rows os refl refl e lt)) ∙ sym (row_degree mesh is_mesh rows os refl refl e lt)
      ∙ two e lt

  pub first_is : get_or first e 0 ≡ get_or (sides_with mesh (ends mesh e)) 0 0
  first_is = ap (λ (xs : List ℕ). get_or xs e 0) first_are ∙ get_or-map (least_side mesh) (edges mesh) e (0, 0) 0 lt

  pub first_below : get_or first e 0 < side_count mesh
  first_below =
      let n = size in
      let b = side_below mesh (ends mesh e) 0 0 (omega arith) in
      omega (arith, first_is)

  pub mate_is : get_or mate (get_or first e 0) 0 ≡ get_or (sides_with mesh (ends mesh e)) 1 0
  mate_is =
      let n = size in
      let p = ends mesh e in
      let both = sides_with mesh p in
      let s = get_or both 0 0 in
      let u = get_or both 1 0 in
      let m = get_or mate s 0 in
      let ls : s < side_count mesh = side_below mesh p 0 0 (omega arith) in
      let lu : u < side_count mesh = side_below mesh p 1 0 (omega arith) in
      let ps : pair_at mesh s ≡ p = with_pair mesh p 0 (omega arith) in
      let pu : pair_at mesh u ≡ p = with_pair mesh p 1 (omega arith) in
      let rising : s < u = with_rising mesh p (omega arith) in
      let apart : s ≢ u = λ same. omega arith in
      let is = mates.mates s ls in
      ap (λ x. get_or mate x 0) first_is
      ∙ of_edge mesh (two_sides mesh is_mesh two) s u m ls lu is.is_side (pu ∙ sym ps) is.same_edge apart is.other

  place : (k : ℕ) → k < 2 → get_or (owners 0 mesh.faces) (get_or (sides_with mesh (ends mesh e)) k 0) 0
      ≡ get_or (faces_with mesh (ends mesh e)) k 0
  place k few =
      let rows = map (sides_with mesh) (edges mesh) in
      let os = owners 0 mesh.faces in
      let row = row_is mesh is_mesh rows os refl refl e lt in
      let n = size in
      ap (λ (r : List ℕ). get_or os (get_or r k 0) 0) (sym row)
      ∙ sym (face_at_place mesh is_mesh rows os refl refl e k lt (omega (arith, ap length row)))

  pub first_face : get_or (owners 0 mesh.faces) (get_or first e 0) 0 ≡ (faces_of mesh e).0
  first_face = ap (λ s. get_or (owners 0 mesh.faces) s 0) first_is ∙ place 0 (omega arith)

  pub second_face : get_or (owners 0 mesh.faces) (get_or mate (get_or first e 0) 0) 0 ≡ (faces_of mesh e).1
  second_face = ap (λ s. get_or (owners 0 mesh.faces) s 0) mate_is ∙ place 1 (omega arith)
