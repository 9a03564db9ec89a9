-- Valid rows of faces are a tree of the faces.
use Rattle.surf_surfaces.proofs.Common.{unwrap_or, ◌≡◌, ◌≢◌, ℕ, ◌+◌, ◌<◌, true, not, ◌&&◌, ◌||◌, eqb, [], refl, sym, ap, ◌∙◌, arith, Option, Some, None, inl, inr, cases_eq, ne_eqb, eq-eqb, or_left, or_right, and_from, eqb_comm, any_below-same, dual, joins, IsTree, in_tree, Mesh, pair_of, edges, among, face_count, edge_count, face_at, has_side, faces_of, IsSurface, edge_number, place_of, cells_of}
use Rattle.surf_surfaces.proofs.meshes.EdgeLaws.{place_of-among, among-edges, list_any_from, ends-eq}
use Rattle.surf_surfaces.proofs.meshes.SurfaceLaws.{two_faces_of}
use Rattle.surf_validity.specs.Rows.{DualRows}
use Rattle.surf_validity.specs.Valid.{depth_at, side_at, across, dual_tree, IsDualRow, IsDualValid, is_side, is_dual_edge}

module _ (mesh : Mesh) (rows : DualRows) (surface : IsSurface mesh) where
  -- a side of a face is an edge
  side_is_edge : (f : ℕ) (side : ℕ × ℕ) → f < face_count mesh → has_side (pair_of side) (face_at mesh f) ≡ true →
      among (pair_of side) (edges mesh) ≡ true
  side_is_edge f side f_in has =
      among-edges mesh (pair_of side) ∙ list_any_from (has_side (pair_of side)) mesh.faces [] f f_in has

  -- the edge between a face and the face across a side
  pub record LeadsAcross (f : ℕ) (side : ℕ × ℕ) : Type 0 where
    pub face_in : across mesh f side < face_count mesh
    pub edge_in : edge_number mesh side < edge_count mesh
    pub over : joins (dual (cells_of mesh)) f (across mesh f side) (edge_number mesh side) ≡ true

  leads : (f : ℕ) (side : ℕ × ℕ) → f < face_count mesh → has_side (pair_of side) (face_at mesh f) ≡ true →
      LeadsAcross f side
  leads f side f_in has =
      let p = pair_of side in
      let e = place_of p (edges mesh) in
      let at = place_of-among p (edges mesh) (0, 0) (side_is_edge f side f_in has) in
      let two = two_faces_of mesh surface e at.0 in
      let a = (faces_of mesh e).0 in
      let b = (faces_of mesh e).1 in
      let one_of : (eqb f a || eqb f b) ≡ true =
      sym (two.no_other f) ∙ ap (λ q. has_side q (face_at mesh f)) at.1 ∙ has in
      let lesser : a < b = two.lesser_first in
      let inside : b < face_count mesh = two.second_is_face in
      elim (cases_eq f a) [
        | inl is ↦ record {
          face_in = rw (eq-eqb f a is) inside;
          edge_in = at.0;
          over = rw (eq-eqb f a is) (or_left (eqb a f && eqb b b) (eqb a b && eqb b f)
              (and_from (eqb a f) (eqb b b) (eq-eqb a f (sym is)) (eq-eqb b b refl)));
        }
        | inr not ↦
            let other : eqb f b ≡ true = rw (ne_eqb f a not) at one_of in
            record {
              face_in = rw (ne_eqb f a not) (omega (arith, lesser, inside));
              edge_in = at.0;
              over = rw (ne_eqb f a not) (or_right (eqb a f && eqb b a) (eqb a a && eqb b f)
                  (and_from (eqb a a) (eqb b f) (eq-eqb a a refl) (eqb_comm b f ∙ other)));
            }
      ]

  module _ (valid : IsDualValid mesh rows) where
    -- a face other than face 0 has a side, over which the depth falls
    pub record Falls (f : ℕ) (side : ℕ × ℕ) : Type 0 where
      pub leads_on : LeadsAcross f side
      pub deeper : depth_at rows f ≡ depth_at rows (across mesh f side) + 1

    falls : (f : ℕ) (o : Option (ℕ × ℕ)) → f < face_count mesh → f ≢ 0 → IsDualRow mesh rows f o → Falls f (unwrap_or o (0, 0))
    falls f None l ne is = absurd (ne is.0)
    falls f (Some side) l ne is = record { leads_on = leads f side l is.1; deeper = is.2 }

    pub row_falls : (f : ℕ) → f < face_count mesh → f ≢ 0 → Falls f (unwrap_or (side_at rows f) (0, 0))
    row_falls f l ne = falls f (side_at rows f) l ne (valid f l)

    pub dual_rows_are_tree : IsTree (dual (cells_of mesh)) (dual_tree mesh rows)
    dual_rows_are_tree = record {
      root_in = surface.some_face;
      parent_in = λ f l ne. (row_falls f l ne).leads_on.face_in;
      up_in = λ f l ne. (row_falls f l ne).leads_on.edge_in;
      up_joins = λ f l ne. (row_falls f l ne).leads_on.over;
      rank_falls = λ f l ne. let is = (row_falls f l ne).deeper in omega (arith, is);
    }

    same_test : (e f : ℕ) (o : Option (ℕ × ℕ)) → e < edge_count mesh → f < face_count mesh → IsDualRow mesh rows f o →
        (not (eqb f 0) && eqb (edge_number mesh (unwrap_or o (0, 0))) e) ≡ is_side mesh e o
    same_test e f None e_in l is = rw (eq-eqb f 0 is.0) refl
    same_test e f (Some side) e_in l is =
        rw (ne_eqb f 0 is.0)
        (eqb_comm (place_of (pair_of side) (edges mesh)) e
        ∙ sym (ends-eq mesh (pair_of side) e (side_is_edge f side l is.1) e_in))

    -- the edges of the tree are the sides of the rows
    pub dual_rows_in_tree : (e : ℕ) → e < edge_count mesh →
        in_tree (dual (cells_of mesh)) (dual_tree mesh rows) e ≡ is_dual_edge mesh rows e
    dual_rows_in_tree e e_in =
        any_below-same (face_count mesh) (λ f. not (eqb f 0) && eqb (edge_number mesh (unwrap_or (side_at rows f) (0, 0))) e)
        (λ f. is_side mesh e (side_at rows f)) (λ f l. same_test e f (side_at rows f) e_in l (valid f l))
