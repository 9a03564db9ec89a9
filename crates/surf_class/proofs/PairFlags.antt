-- The pairs that are sides of a face.
use Rattle.surf_cert.proofs.Common.{◌≡◌, ℕ, ◌<◌, true, ◌&&◌, List, map, AllPairs, All, Contains, sym, ap, ◌∙◌, odd, odd_below-same, and_comm, Mesh, edges, pair_lt, among, pair_eq, face_count, edge_count, borders, ends, IsSurface, edge_number, list_any_at, among-contains, pair_eq-true}
use Rattle.surf_class.proofs.Common.{has_odd_sides}
use Rattle.surf_classes.proofs.PairSums.{odd_sums_are_sums_over_edges}

listed_edges : (mesh : Mesh) (pairs : List (ℕ × ℕ)) → All (Contains (edges mesh)) pairs → (p : ℕ × ℕ) →
    among p pairs ≡ true → among p (edges mesh) ≡ true
listed_edges mesh pairs all p in' =
    let r = list_any_at (pair_eq p) pairs p in' in
    ap (λ q. among q (edges mesh)) (pair_eq-true p _ r.2) ∙ among-contains _ (edges mesh) (all r.0 p r.1)

-- whether an odd number of the pairs border it
pub odd_by_pairs : (mesh : Mesh) (pairs : List (ℕ × ℕ)) (f : ℕ) → IsSurface mesh → AllPairs (λ p q. pair_lt p q ≡ true) pairs →
    All (Contains (edges mesh)) pairs → f < face_count mesh →
    odd (map (λ p. borders mesh f (edge_number mesh p)) pairs) ≡ has_odd_sides mesh pairs f
odd_by_pairs mesh pairs f surface rises all l =
    let sums = odd_sums_are_sums_over_edges mesh surface (borders mesh f) pairs rises (listed_edges mesh pairs all) in
    sums.of_chain
    ∙ odd_below-same (edge_count mesh) (λ e. among (ends mesh e) pairs && borders mesh f e)
    (λ e. borders mesh f e && among (ends mesh e) pairs) (λ e m. and_comm (among (ends mesh e) pairs) (borders mesh f e))
    ∙ sym (sums.of_faces f l)
