-- Walks of a mesh are walks of its graph of vertices.
use Rattle.surf_surfaces.proofs.Common.{◌≡◌, ℕ, ◌+◌, ◌<◌, true, eqb, List, [], ◌∷◌, get_or, map, sum, refl, sym, ap, ◌∙◌, arith, inl, inr, Contains, subst, AllByRecursion, cases_lt, lt-ltb, le-ltb, recursion_from_All, All-from_recursion, sum_by-cons, xor, odd, IsEven, IsJoined, edge_between, IsGraphWalk, walk_chain, graph_walk_length, primal, Mesh, IsMesh, pair, pair_of, pair_eq, steps_from, edges, among, edge_count, ends, IsSurface, tail}
use Rattle.surf_graphs.proofs.Graphs.{edge_between_is, even_same, walk_even}
use Rattle.surf_surfaces.specs.Walk.{place_of, edge_number, edge_length, IsWalk, IsClosed, first, last_from, parity, walk_length}
use Rattle.surf_surfaces.specs.Cells.{cells_of, BoundariesAreNull, WalksAreGraphWalks}
use Rattle.surf_surfaces.proofs.meshes.PairLaws.{pair_eq-same}
use Rattle.surf_surfaces.proofs.meshes.EdgeLaws.{place_of-among, place_of-ends, among-contains, contains_from_among, list_any_from}
use Rattle.surf_surfaces.proofs.meshes.SurfaceLaws.{edge_below}
use Rattle.surf_surfaces.proofs.meshes.CellLaws.{ends_below, joins_from, joins_is, steps_by_number}

-- a step is an edge of the graph
pub joined : (mesh : Mesh) (a b : ℕ) → Contains (edges mesh) (pair a b) → IsJoined (primal (cells_of mesh)) a b
joined mesh a b c =
    let at = place_of-among (pair a b) (edges mesh) (0, 0) (among-contains (pair a b) (edges mesh) c) in
    (place_of (pair a b) (edges mesh), at.0, joins_from (ends mesh (place_of (pair a b) (edges mesh))) a b at.1)

pub between_is_number : (mesh : Mesh) → IsMesh mesh → (a b : ℕ) → Contains (edges mesh) (pair a b) →
    edge_between (primal (cells_of mesh)) a b ≡ edge_number mesh (a, b)
between_is_number mesh m a b c =
    let e = edge_between (primal (cells_of mesh)) a b in
    let is = edge_between_is (primal (cells_of mesh)) a b (joined mesh a b c) in
    let same : ends mesh e ≡ pair a b = joins_is (ends mesh e) a b ((ends_below mesh m e is.0).0) is.1 in
    sym (place_of-ends mesh e is.0) ∙ ap (λ p. place_of p (edges mesh)) same

pub from_joined : (mesh : Mesh) → IsMesh mesh → (a b : ℕ) → IsJoined (primal (cells_of mesh)) a b →
    among (pair a b) (edges mesh) ≡ true
from_joined mesh m a b j =
    let same : ends mesh j.0 ≡ pair a b = joins_is (ends mesh j.0) a b ((ends_below mesh m j.0 j.1).0) j.2 in
    list_any_from (pair_eq (pair a b)) (edges mesh) (0, 0) j.0 j.1 (pair_eq-same (pair a b) (ends mesh j.0) (sym same))

walk_to : (mesh : Mesh) (u : ℕ) (rest : List ℕ) →
    AllByRecursion (λ s. Contains (edges mesh) (pair_of s)) (steps_from u rest) →
    IsGraphWalk (primal (cells_of mesh)) u rest (last_from u rest)
walk_to mesh u [] h = refl
walk_to mesh u (w ∷ rest) h = (joined mesh u w h.0, walk_to mesh w rest h.1)

chain_to : (mesh : Mesh) → IsMesh mesh → (e : ℕ) → e < edge_count mesh → (u : ℕ) (rest : List ℕ) →
    AllByRecursion (λ s. Contains (edges mesh) (pair_of s)) (steps_from u rest) →
    odd (map (λ s. eqb (edge_number mesh s) e) (steps_from u rest)) ≡ walk_chain (primal (cells_of mesh)) u rest e
chain_to mesh m e in' u [] h = refl
chain_to mesh m e in' u (w ∷ rest) h =
    ap (λ n. xor (eqb n e) (odd (map (λ s. eqb (edge_number mesh s) e) (steps_from w rest))))
    (sym (between_is_number mesh m u w h.0))
    ∙ ap (xor (eqb (edge_between (primal (cells_of mesh)) u w) e)) (chain_to mesh m e in' w rest h.1)

pub length_to : (mesh : Mesh) → IsMesh mesh → (given : List ℕ) (u : ℕ) (rest : List ℕ) →
    AllByRecursion (λ s. Contains (edges mesh) (pair_of s)) (steps_from u rest) →
    sum (map (λ s. get_or given (edge_number mesh s) 0) (steps_from u rest)) ≡ graph_walk_length (primal (cells_of mesh))
    (λ e. get_or given e 0) u rest
length_to mesh m given u [] h = refl
length_to mesh m given u (w ∷ rest) h =
    sum_by-cons (λ n. n) (get_or given (edge_number mesh (u, w)) 0)
    (map (λ s. get_or given (edge_number mesh s) 0) (steps_from w rest))
    ∙ ap (λ n. get_or given n 0 + sum (map (λ s. get_or given (edge_number mesh s) 0) (steps_from w rest)))
    (sym (between_is_number mesh m u w h.0))
    ∙ ap (λ n. get_or given (edge_between (primal (cells_of mesh)) u w) 0 + n) (length_to mesh m given w rest h.1)

second_inside : (u w n : ℕ) → (pair u w).0 < (pair u w).1 → (pair u w).1 < n → w < n
second_inside u w n h k = elim (cases_lt u w) [
  | inl lt ↦ rw (lt-ltb u w lt) at k
  | inr ge ↦ let first : w < u = rw (le-ltb u w ge) at h in let second : u < n = rw (le-ltb u w ge) at k in omega arith
]

pub walk_from : (mesh : Mesh) → IsMesh mesh → (u v : ℕ) (rest : List ℕ) → u < mesh.vertices →
    IsGraphWalk (primal (cells_of mesh)) u rest v → IsWalk mesh (u ∷ rest) × (last_from u rest ≡ v)
walk_from mesh m u v [] in' h = (
  record {
    begins = omega arith;
    vertices = All-from_recursion (λ w. w < mesh.vertices) (u ∷ []) (in', tt);
    along_edges = All-from_recursion (λ s. Contains (edges mesh) (pair_of s)) [] tt;
  },
  h,
)
walk_from mesh m u v (w ∷ rest) in' h =
    let has = from_joined mesh m u w h.0 in
    let below = edge_below mesh m (pair u w) has in
    let w_in : w < mesh.vertices = second_inside u w mesh.vertices below.0 below.1 in
    let later = walk_from mesh m w v rest w_in h.1 in
    let later_walk : IsWalk mesh (w ∷ rest) = later.0 in (
      record {
        begins = omega arith;
        vertices = All-from_recursion (λ x. x < mesh.vertices) (u ∷ w ∷ rest)
            (in', recursion_from_All (λ x. x < mesh.vertices) (w ∷ rest) later_walk.vertices);
        along_edges = All-from_recursion (λ s. Contains (edges mesh) (pair_of s)) (steps_from u (w ∷ rest)) (
          contains_from_among (pair u w) (edges mesh) has,
          recursion_from_All (λ s. Contains (edges mesh) (pair_of s))
              (steps_from w rest) later_walk.along_edges,
        );
      },
      later.1,
    )

pub walks_are_graph_walks : (mesh : Mesh) → IsSurface mesh → WalksAreGraphWalks mesh
walks_are_graph_walks mesh surface =
    let along : (u : ℕ) (rest : List ℕ) → IsWalk mesh (u ∷ rest) →
    AllByRecursion (λ s. Contains (edges mesh) (pair_of s)) (steps_from u rest) =
    λ u rest w. recursion_from_All (λ s. Contains (edges mesh) (pair_of s)) (steps_from u rest) w.along_edges in
    record {
      walk = λ u rest w. walk_to mesh u rest (along u rest w);
      from_walk = walk_from mesh surface.is_mesh;
      parities = λ u rest w e in'. steps_by_number mesh e in' (steps_from u rest)
          (along u rest w) ∙ chain_to mesh surface.is_mesh e in' u rest (along u rest w);
      sizes = λ lengths u rest w. length_to mesh surface.is_mesh lengths u rest (along u rest w);
    }

pub boundaries_are_null : BoundariesAreNull
boundaries_are_null mesh chain = ((λ h. h), (λ h. h))

-- a closed walk as a walk of the graph: from its first vertex over those after it
pub record GraphWalk (mesh : Mesh) (lengths : List ℕ) (walk : List ℕ) : Type 0 where
  pub start_in : first walk < mesh.vertices
  pub closed : IsGraphWalk (primal (cells_of mesh)) (first walk) (tail walk) (first walk)
  pub chain : (e : ℕ) → e < edge_count mesh → parity mesh walk e ≡ walk_chain (primal (cells_of mesh)) (first walk)
      (tail walk) e
  pub size : walk_length mesh lengths walk ≡ graph_walk_length (primal (cells_of mesh)) (edge_length lengths) (first walk)
      (tail walk)

pub graph_walk : (mesh : Mesh) → IsSurface mesh → (lengths walk : List ℕ) → IsClosed mesh walk →
    GraphWalk mesh lengths walk
graph_walk mesh surface lengths [] closed = absurd (omega (arith, closed.is_walk.begins))
graph_walk mesh surface lengths (u ∷ rest) closed =
    let walks = walks_are_graph_walks mesh surface in
    record {
      start_in = closed.is_walk.vertices 0 0 (omega arith);
      closed = subst (IsGraphWalk (primal (cells_of mesh)) u rest) (sym closed.returns)
          (walks.walk u rest closed.is_walk);
      chain = walks.parities u rest closed.is_walk;
      size = walks.sizes lengths u rest closed.is_walk;
    }

pub closed_parity_even : (mesh : Mesh) → IsSurface mesh → (walk : List ℕ) → IsClosed mesh walk →
    IsEven (primal (cells_of mesh)) (parity mesh walk)
closed_parity_even mesh surface walk closed =
    let w = graph_walk mesh surface [] walk closed in
    even_same (primal (cells_of mesh)) (parity mesh walk) (walk_chain (primal (cells_of mesh)) (first walk) (tail walk))
    w.chain (walk_even (primal (cells_of mesh)) (first walk) (tail walk) w.closed)
