-- Where each vertex but vertex 0 has a lesser neighbour and one fan, all faces are joined.
use Rattle.surf_surfaces.proofs.Common.{◌≡◌, ◌<◌, ◌≤◌, ◌==◌, ◌∙◌, ℕ, zero, suc, true, get_or, length, [], refl, sym, subst, arith, eqb-true, get_or_default, Joined, here, over, Mesh, IsMesh, edges, pair, pair_eq, among, face_count, face_at, edge_count, ends, has_side, HasCorner, HasOneFan, Share, ShareAt, IsConnected}
use Rattle.surf_surfaces.proofs.meshes.PairLaws.{pair_eq-same}
use Rattle.surf_surfaces.proofs.meshes.JoinedLaws.{joined_trans, joined_sym, joined_lift}
use Rattle.surf_surfaces.proofs.meshes.EdgeLaws.{list_any_at, list_any_from, among-edges}
use Rattle.surf_surfaces.proofs.meshes.CellLaws.{ends_below}
use Rattle.surf_surfaces.proofs.walks.WalkLaws.{side_corners}
use Rattle.surf_check.specs.Descent.{HaveLesserNeighbours}

-- a face with both ends of an edge as corners
record HasBothEnds (mesh : Mesh) (e f : ℕ) : Type 0 where
  low : HasCorner mesh f (ends mesh e).0
  high : HasCorner mesh f (ends mesh e).1

face_of_edge : (mesh : Mesh) (e : ℕ) → e < edge_count mesh → (f : ℕ) × HasBothEnds mesh e f
face_of_edge mesh e lt =
    let p = ends mesh e in
    let is_edge : among p (edges mesh) ≡ true = list_any_from (pair_eq p) (edges mesh) (0, 0) e lt (pair_eq-same p p refl) in
    let found = list_any_at (has_side p) mesh.faces [] (sym (among-edges mesh p) ∙ is_edge) in
    let corners = side_corners (face_at mesh found.0) p found.2 in
    (found.0, record { low = (found.1, corners.0); high = (found.1, corners.1) })

module _ (mesh : Mesh) (is_mesh : IsMesh mesh) (fans : (v : ℕ) → v < mesh.vertices → HasOneFan mesh v)
    (lesser : HaveLesserNeighbours mesh) where
  -- faces at one vertex are joined
  at_one : (v f g : ℕ) → v < mesh.vertices → HasCorner mesh f v → HasCorner mesh g v → Joined (Share mesh) f g
  at_one v f g lt hf hg = joined_lift (λ a b (share : ShareAt mesh v a b). over (pair v share.0, share.1, share.2) here) (fans v lt f g hf hg)

  -- a face at a vertex is joined with one at vertex 0
  descends : (n v f : ℕ) → v ≤ n → v < mesh.vertices → HasCorner mesh f v →
      (g : ℕ) × HasCorner mesh g 0 × Joined (Share mesh) f g
  descends n zero f le lt has = (f, has, here)
  descends zero (suc v) f le lt has = absurd (omega arith)
  descends (suc n) (suc v) f le lt has =
      let found = list_any_at (λ (p : ℕ × ℕ). p.1 == suc v) (edges mesh) (0, 0) (lesser (suc v) (omega arith) lt) in
      let e = found.0 in
      let high : (ends mesh e).1 ≡ suc v = eqb-true (ends mesh e).1 (suc v) found.2 in
      let below = ends_below mesh is_mesh e found.1 in
      let face = face_of_edge mesh e found.1 in
      let low = below.0 in
      let next = descends n (ends mesh e).0 face.0 (omega arith) (omega arith) face.1.low in
      let top : HasCorner mesh face.0 (suc v) = subst (HasCorner mesh face.0) high face.1.high in
      (next.0, next.1, joined_trans (at_one (suc v) f face.0 lt has top) next.2)

  -- a vertex of a face
  some_corner : (f : ℕ) → f < face_count mesh → (v : ℕ) × (v < mesh.vertices) × HasCorner mesh f v
  some_corner f lt =
      let face = is_mesh f [] lt in
      let some : 0 < length (face_at mesh f) = let large = face.large in omega arith in
      let v = get_or (face_at mesh f) 0 0 in
      (v, face.inside 0 0 some, (lt, (0, some, get_or_default (face_at mesh f) 0 v 0 some)))

  -- a face is joined with one at vertex 0
  falls : (f : ℕ) → f < face_count mesh → (g : ℕ) × HasCorner mesh g 0 × Joined (Share mesh) f g
  falls f lt = let at = some_corner f lt in descends at.0 at.0 f (omega arith) at.1 at.2

  pub lesser_neighbours_join : IsConnected mesh
  lesser_neighbours_join f g lf lg =
      let a = falls f lf in
      let b = falls g lg in
      let below = (some_corner f lf).1 in
      let some : 0 < mesh.vertices = omega arith in
      joined_trans a.2 (joined_trans (at_one 0 a.0 b.0 some a.1 b.1)
      (joined_sym (λ x y (share : Share mesh x y). (share.0, share.2, share.1)) b.2))
