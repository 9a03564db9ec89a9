-- How many vertices, faces and loops the mesh of a shape has.
use Rattle.surf_surfaces.proofs.Common.{◌≡◌, ℕ, ◌-◌, ◌*◌, ◌≤◌, sym, subst, arith, inl, inr, mul-le, face_count, edge_count, loop_count}
use Rattle.surf_tori.specs.Chain.{chain}
use Rattle.surf_tori.proofs.TorusLaws.{tori_have_counts}
use Rattle.surf_tori.proofs.ChainLaws.{chains_have_counts}
use Rattle.surf_words.specs.Shapes.{Shape, IsShape, mesh_of}

-- the counts of a chain of g tori of a rows and b columns
record AreCounts (g a b : ℕ) : Type 0 where
  pub vertices : (chain g a b).vertices ≡ g * (a * b) - 3 * (g - 1)
  pub faces : face_count (chain g a b) ≡ 2 * (g * (a * b)) - 2 * (g - 1)
  pub edges : 2 * edge_count (chain g a b) ≡ 3 * face_count (chain g a b)

one_torus : (a b : ℕ) → 3 ≤ a → 3 ≤ b → AreCounts 1 a b
one_torus a b rows columns =
    let are = tori_have_counts a b rows columns in
    let faces = are.faces in
    let edges = are.edges in
    let cells : ℕ = a * b in
    record { vertices = omega arith; faces = omega (arith, faces); edges = omega (arith, faces, edges) }

counts : (s : Shape) → IsShape s → AreCounts s.tori s.rows s.columns
counts s is = elim is.longer [
  | inl one ↦ subst (λ g. AreCounts g s.rows s.columns) (sym one) (one_torus s.rows s.columns is.rows is.columns)
  | inr four ↦
      let are = chains_have_counts s.tori s.rows s.columns is.some four.0 four.1 in
      record { vertices = are.vertices; faces = are.faces; edges = are.edges }
]

pub shape_vertices : (s : Shape) → IsShape s →
    (mesh_of s).vertices ≡ s.tori * (s.rows * s.columns) - 3 * (s.tori - 1)
shape_vertices s is = (counts s is).vertices

pub shape_faces : (s : Shape) → IsShape s →
    face_count (mesh_of s) ≡ 2 * (s.tori * (s.rows * s.columns)) - 2 * (s.tori - 1)
shape_faces s is = (counts s is).faces

-- two loops for each torus
pub shape_loops : (s : Shape) → IsShape s → loop_count (mesh_of s) ≡ 2 * s.tori
shape_loops s is =
    let are = counts s is in
    let vertices = are.vertices in
    let faces = are.faces in
    let edges = are.edges in
    let some = is.some in
    let cells : s.tori * 9 ≤ s.tori * (s.rows * s.columns) = mul-le s.tori 9 s.tori (s.rows * s.columns) (omega arith) (mul-le 3 3 s.rows s.columns is.rows is.columns) in
    omega (arith, vertices, faces, edges, some, cells)
