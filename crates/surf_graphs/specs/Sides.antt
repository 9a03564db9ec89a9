-- The sides of faces, by their numbers.
use Rattle.std.specs.Prelude.{ℕ, ◌≡◌, ◌≢◌, ◌<◌, Bool, true}
use Rattle.surf_graphs.specs.Graphs.{joins}
use Rattle.surf_graphs.specs.Cells.{Cells, primal}

-- the sides of the faces, by their numbers. A side begins at a vertex and runs along an edge, and its
-- face's next side begins where it ends
pub record Sides : Type 0 where
  pub count : ℕ
  pub face_of : ℕ → ℕ
  pub edge_of : ℕ → ℕ
  pub start : ℕ → ℕ
  pub next : ℕ → ℕ
  pub before : ℕ → ℕ
  -- a side of a face
  pub first : ℕ → ℕ
  -- the two sides of an edge
  pub one : ℕ → ℕ
  pub two : ℕ → ℕ

-- each face is run round by its sides, each edge is two sides, and each vertex is on a face
pub record IsSides (s : Cells) (h : Sides) : Type 0 where
  pub edge_in : (i : ℕ) → i < h.count → h.edge_of i < s.edges
  pub start_in : (i : ℕ) → i < h.count → h.start i < s.vertices
  pub next_in : (i : ℕ) → i < h.count → (h.next i < h.count) × (h.before i < h.count)
  pub next_before : (i : ℕ) → i < h.count → (h.next (h.before i) ≡ i) × (h.before (h.next i) ≡ i)
  pub same_face : (i : ℕ) → i < h.count → h.face_of (h.next i) ≡ h.face_of i
  pub runs_edge : (i : ℕ) → i < h.count →
      joins (primal s) (h.start i) (h.start (h.next i)) (h.edge_of i) ≡ true
  pub two_sides : (e : ℕ) → e < s.edges → (h.one e < h.count) × (h.two e < h.count) × (h.one e ≢ h.two e)
  pub sides_of : (e : ℕ) → e < s.edges → (h.edge_of (h.one e) ≡ e) × (h.edge_of (h.two e) ≡ e)
  pub no_third : (i : ℕ) → i < h.count → (i ≢ h.one (h.edge_of i)) → i ≡ h.two (h.edge_of i)
  pub faces_of : (e : ℕ) → e < s.edges → (s.near e ≡ h.face_of (h.one e)) × (s.far e ≡ h.face_of (h.two e))
  pub face_in : (i : ℕ) → i < h.count → h.face_of i < s.faces
  pub first_of : (f : ℕ) → f < s.faces → (h.first f < h.count) × (h.face_of (h.first f) ≡ f)
  -- what `next` keeps is one for all sides of a face
  pub around : (p : ℕ → Bool) → ((i : ℕ) → i < h.count → p (h.next i) ≡ p i) → (i : ℕ) → i < h.count →
      p i ≡ p (h.first (h.face_of i))
  pub on_face : (v : ℕ) → v < s.vertices → (i : ℕ) × (i < h.count) × (h.start i ≡ v)
