-- The links of faces, and the ways by them.
use Rattle.surf_treecheck.proofs.Common.{unwrap_or, ◌≡◌, ◌≢◌, ℕ, ◌<◌, ◌+◌, [], ◌∷◌, ◌++◌, length, subst, arith, Option, Some, None, cond, eqb, List, get_or, sym, ap, ◌∙◌, inl, inr, length-append, get_or_append_left, cases_eq, Mesh, face_count, edge_count, faces_of, IsSurface, edge_number, DualRows, depth_at, side_at, IsDualRow, row_falls, HoldsBelow, HasDual, AreLinks, IsLinkOver, HasLink, IsStepUp}
use Rattle.std.proofs.Math.Seq.{get_or-append_seam}

pub link_is : (mesh : Mesh) (f u v e face : ℕ) → edge_number mesh (u, v) ≡ e →
    face ≡ cond (eqb f (faces_of mesh e).0) (faces_of mesh e).1 (faces_of mesh e).0 →
    IsLinkOver mesh f (u, v) face e
link_is mesh f u v e face number is = record {
  hangs_on = is ∙ ap (λ h. cond (eqb f (faces_of mesh h).0) (faces_of mesh h).1 (faces_of mesh h).0) (sym number);
  by_edge = sym number;
}

-- one more face
pub links_more : (mesh : Mesh) (dual : DualRows) (n : ℕ) (parent up : List ℕ) (face edge : ℕ) →
    AreLinks mesh dual n parent up → HasLink mesh n (side_at dual n) face edge →
    AreLinks mesh dual (n + 1) (parent ++ face ∷ []) (up ++ edge ∷ [])
links_more mesh dual n parent up face edge are is = record {
  parents = length-append parent (face ∷ []) ∙ ap (λ k. k + 1) are.parents;
  ups = length-append up (edge ∷ []) ∙ ap (λ k. k + 1) are.ups;
  each = λ f l. elim (cases_eq f n) [
    | inl same ↦ rw (same, at_end parent face n are.parents, at_end up edge n are.ups) is
    | inr other ↦
        let below : f < n = omega arith in
        rw (
          get_or_append_left parent (face ∷ []) 0 f (omega (arith, are.parents)),
          get_or_append_left up (edge ∷ []) 0 f (omega (arith, are.ups)),
        ) (are.each f below)
  ];
}
  where
    at_end : (xs : List ℕ) (y k : ℕ) → length xs ≡ k → get_or (xs ++ y ∷ []) k 0 ≡ y
    at_end xs y k size = subst (λ j. get_or (xs ++ y ∷ []) j 0 ≡ y) size (get_or-append_seam xs y [] 0)

-- a face other than face 0 has a link
link_from : (mesh : Mesh) (dual : DualRows) (f face edge : ℕ) (o : Option (ℕ × ℕ)) → IsDualRow mesh dual f o → f ≢ 0 →
    HasLink mesh f o face edge → IsLinkOver mesh f (unwrap_or o (0, 0)) face edge
link_from mesh dual f face edge None row ne has = absurd (ne row.0)
link_from mesh dual f face edge (Some side) row ne has = has

-- a link is a step up the tree of faces
pub step_is : (mesh : Mesh) (dual : DualRows) (f face edge : ℕ) → IsSurface mesh →
    HoldsBelow (face_count mesh) (HasDual mesh dual) → f < face_count mesh → f ≢ 0 →
    HasLink mesh f (side_at dual f) face edge → IsStepUp mesh dual f face edge
step_is mesh dual f face edge surface valid l ne has =
    let is = link_from mesh dual f face edge (side_at dual f) (valid f l) ne has in
    let it = row_falls mesh dual surface valid f l ne in
    let deeper = it.deeper in
    record {
      face_in = subst (λ g. g < face_count mesh) (sym is.hangs_on) it.leads_on.face_in;
      edge_in = subst (λ e. e < edge_count mesh) (sym is.by_edge) it.leads_on.edge_in;
      parent = is.hangs_on;
      up = is.by_edge;
      falls = let same = ap (depth_at dual) is.hangs_on in omega (arith, deeper, same);
    }
