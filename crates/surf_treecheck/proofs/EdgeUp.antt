-- The edge between two vertices by its number.
use Rattle.surf_treecheck.proofs.Common.{◌≡◌, ℕ, ◌<◌, true, sym, ap, ◌∙◌, Contains, Option, Some, None, true≢false, primal, joined_below, Mesh, pair, pair_eq, edges, among, edge_count, ends, IsSurface, edge_number, place_of, cells_of, IsEdgeBetween, IsEdgeUp, place_of-ends, among-contains, contains_from_among, list_any_from, pair_eq-same, surfaces_are_cells}
use Rattle.surf_surfaces.proofs.walks.GraphWalkLaws.{joined}

pub number_is : (mesh : Mesh) (p v e : ℕ) → e < edge_count mesh → ends mesh e ≡ pair p v → edge_number mesh (p, v) ≡ e
number_is mesh p v e l same = ap (λ q. place_of q (edges mesh)) (sym same) ∙ place_of-ends mesh e l

pub neighbour_in : (mesh : Mesh) (p v : ℕ) → IsSurface mesh → Contains (edges mesh) (pair p v) → p < mesh.vertices
neighbour_in mesh p v surface has =
    joined_below (primal (cells_of mesh)) (surfaces_are_cells mesh surface).complex.primal_ends p v (joined mesh p v has)

-- an edge that is found between two vertices has its number
pub edge_up_is : (mesh : Mesh) (p v : ℕ) → IsSurface mesh → (o : Option ℕ) → IsEdgeBetween mesh p v o → IsEdgeUp mesh p v o
edge_up_is mesh p v surface None none = λ has. true≢false (sym (among-contains (pair p v) (edges mesh) has) ∙ none)
edge_up_is mesh p v surface (Some e) is =
    let there : among (pair p v) (edges mesh) ≡ true =
    list_any_from (pair_eq (pair p v)) (edges mesh) (0, 0) e is.0 (pair_eq-same (pair p v) (ends mesh e) (sym is.1)) in
    let has = contains_from_among (pair p v) (edges mesh) there in
    (has, is.0, number_is mesh p v e is.0 is.1, neighbour_in mesh p v surface has)
