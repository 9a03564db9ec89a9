-- The edge of a face between two vertices.
use Rattle.surf_treecheck.proofs.Common.{◌≡◌, ℕ, ◌<◌, true, false, ◌||◌, eqb, [], sym, ap, ◌∙◌, true≢false, Mesh, pair, edges, among, face_count, edge_count, face_at, ends, has_side, faces_of, IsSurface, among-edges, list_any_from}
use Rattle.surf_surfaces.proofs.meshes.SurfaceLaws.{two_faces_of}

-- what is no edge is no side of a face
pub no_side : (mesh : Mesh) (f u v : ℕ) → f < face_count mesh → among (pair u v) (edges mesh) ≡ false →
    has_side (pair u v) (face_at mesh f) ≡ true → ⊥
no_side mesh f u v l none has =
    true≢false (sym (among-edges mesh (pair u v) ∙ list_any_from (has_side (pair u v)) mesh.faces [] f l has) ∙ none)

-- an edge is a side of its two faces alone
pub side_of : (mesh : Mesh) (f u v e : ℕ) → IsSurface mesh → e < edge_count mesh → ends mesh e ≡ pair u v →
    has_side (pair u v) (face_at mesh f) ≡ (eqb f (faces_of mesh e).0 || eqb f (faces_of mesh e).1)
side_of mesh f u v e surface l same =
    ap (λ p. has_side p (face_at mesh f)) (sym same) ∙ (two_faces_of mesh surface e l).no_other f
