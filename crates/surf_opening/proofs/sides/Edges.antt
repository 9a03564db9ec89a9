-- The edges of a mesh by their numbers.
use Rattle.surf_surfaces.proofs.Common.{◌≡◌, ℕ, ◌<◌, sym, refl, ap, ◌∙◌, [], true, Mesh, pair_eq, edges, among, place_of, has_side, edge_count, ends, HasEdge}
use Rattle.surf_surfaces.proofs.meshes.PairLaws.{pair_eq-same}
use Rattle.surf_surfaces.proofs.meshes.EdgeLaws.{among-edges, list_any_at, list_any_from, place_of-among, place_of-ends}

module _ (mesh : Mesh) where
  pub numbered : (f : ℕ) (p : ℕ × ℕ) → HasEdge mesh f p → (place_of p (edges mesh) < edge_count mesh)
      × (ends mesh (place_of p (edges mesh)) ≡ p)
  numbered f p h = place_of-among p (edges mesh) (0, 0)
      (among-edges mesh p ∙ list_any_from (has_side p) mesh.faces [] f h.0 h.1)

  pub edge_of : (f : ℕ) (p : ℕ × ℕ) → HasEdge mesh f p → (e : ℕ) × (e < edge_count mesh) × (ends mesh e ≡ p)
  edge_of f p h = let n = numbered f p h in (place_of p (edges mesh), n.0, n.1)

  pub face_of : (e : ℕ) → e < edge_count mesh → (f : ℕ) × HasEdge mesh f (ends mesh e)
  face_of e h =
      let p = ends mesh e in
      let is : among p (edges mesh) ≡ true =
      list_any_from (pair_eq p) (edges mesh) (0, 0) e h (pair_eq-same p p refl) in
      let f = list_any_at (has_side p) mesh.faces [] (sym (among-edges mesh p) ∙ is) in
      (f.0, (f.1, f.2))

  pub edge_one : (e h : ℕ) → e < edge_count mesh → h < edge_count mesh → ends mesh e ≡ ends mesh h → e ≡ h
  edge_one e h i j k = sym (place_of-ends mesh e i) ∙ ap (λ p. place_of p (edges mesh)) k ∙ place_of-ends mesh h j
