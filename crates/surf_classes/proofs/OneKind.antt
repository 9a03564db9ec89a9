-- No chain has evidence of both kinds.
use Rattle.surf_surfaces.proofs.Common.{◌≡◌, ℕ, ◌<◌, Bool, true, false, ◌&&◌, List, [], ◌∷◌, sym, ap, ◌∙◌, Contains, AllByRecursion, false≢true, recursion_from_All, odd_below, dual, Mesh, among, edges, face_count, edge_count, ends, borders, IsSurface, boundary, cells_of, and_comm, and-false, odd_below-same, odd_below-none, graph_touches}
use Rattle.surf_graphs.proofs.Graphs.{by_nodes}
use Rattle.surf_surfaces.proofs.meshes.CellLaws.{surfaces_are_cells}
use Rattle.surf_surfaces.proofs.meshes.EdgeLaws.{rising_from_AllPairs, among-contains}
use Rattle.surf_classes.specs.Evidence.{has_odd_sides, is_listed}
use Rattle.surf_classes.specs.EvidenceLaws.{EvidenceIsOfOneKind}
use Rattle.surf_classes.proofs.Listed.{rising_once}
use Rattle.surf_classes.proofs.PairSums.{sides_over_edges, chain_over_edges, borders_touches}

pub contained_edges : (mesh : Mesh) (ps : List (ℕ × ℕ)) → AllByRecursion (Contains (edges mesh)) ps →
    AllByRecursion (λ p. among p (edges mesh) ≡ true) ps
contained_edges mesh [] h = tt
contained_edges mesh (p ∷ ps) h = (among-contains p (edges mesh) h.0, contained_edges mesh ps h.1)

-- a set of edges that has an even number of each face's sides meets the boundary of each set of faces in an even number
pub boundary_meets_evenly : (mesh : Mesh) → IsSurface mesh → (pairs : List (ℕ × ℕ)) →
    ((f : ℕ) → f < face_count mesh → has_odd_sides mesh pairs f ≡ false) → (set : ℕ → Bool) →
    odd_below (edge_count mesh) (λ e. among (ends mesh e) pairs && boundary mesh set e) ≡ false
boundary_meets_evenly mesh surface pairs even set =
    let g = dual (cells_of mesh) in
    let on : ℕ → Bool = λ e. among (ends mesh e) pairs in
    by_nodes g (surfaces_are_cells mesh surface).complex.dual_ends on set
    ∙ odd_below-none (face_count mesh) (λ f. set f && odd_below (edge_count mesh) (λ e. on e && graph_touches g f e))
    (λ f l.
    let none : odd_below (edge_count mesh) (λ e. on e && graph_touches g f e) ≡ false =
    odd_below-same (edge_count mesh) (λ e. on e && graph_touches g f e) (λ e. borders mesh f e && on e)
    (λ e m. and_comm (on e) (graph_touches g f e) ∙ ap (λ b. b && on e) (sym (borders_touches mesh surface f e m)))
    ∙ sym (sides_over_edges mesh surface pairs f l) ∙ even f l in
    ap (λ b. set f && b) none ∙ and-false (set f))

pub evidence_is_of_one_kind : EvidenceIsOfOneKind
evidence_is_of_one_kind mesh surface chain faces pairs null odd =
    let on : ℕ → Bool = λ e. among (ends mesh e) pairs in
    false≢true
    (sym (boundary_meets_evenly mesh surface pairs odd.faces_even (is_listed faces))
    ∙ odd_below-same (edge_count mesh) (λ e. on e && boundary mesh (is_listed faces) e) (λ e. on e && chain e)
    (λ e l. ap (λ b. on e && b) (null.bounds e l))
    ∙ sym (chain_over_edges mesh surface chain pairs (rising_once pairs (rising_from_AllPairs pairs odd.rises))
    (contained_edges mesh pairs (recursion_from_All (Contains (edges mesh)) pairs odd.are_edges)))
    ∙ odd.chain_odd)
