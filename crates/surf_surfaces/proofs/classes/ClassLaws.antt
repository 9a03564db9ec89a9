-- Which closed walks are null and which are independent, by their classes, and which lists of them are least.
use Rattle.surf_surfaces.proofs.Common.{◌≡◌, ℕ, ◌<◌, ◌≤◌, List, [], ◌∷◌, length, map, sum, All, refl, sym, ap, ◌∙◌, subst, arith, AllByRecursion, map-map, length-map, recursion_from_All, All-from_recursion, IsEven, walk_chain, Tree, IsTree, IsShortest, loop, left_edges, Mesh, edge_count, IsSurface, tail, IsIndependent, total, loop_walk, loop_length, Chain, chains, numbers, chosen, sum_of, Independent, Weighed, weights, SpannedUpToWeight, primal, Split, IsSplit, IsNullChain, IsClosed, IsClosedAt, edge_length, first, parity, walk_length}
use Rattle.surf_z2.proofs.Below.{chosen-map, map_nil}
use Rattle.surf_graphs.specs.Independence.{signature_of, signed, loop_chain, AreIndependentChains}
use Rattle.surf_graphs.proofs.Existence.{split_exists}
use Rattle.surf_graphs.proofs.Independence.{signature_of-same, null_zero, zero_null, signatures_from_independent, independent_from_signatures, independent_bound, walk_spanned, spanned_least}
use Rattle.surf_graphs.proofs.Loops.{loop_runs}
use Rattle.surf_surfaces.specs.Cells.{cells_of, IndependenceIsThatOfChains, IndependentWalksAreFew}
use Rattle.surf_surfaces.specs.Class.{weighed_walk, NullByClass, IndependentByClasses}
use Rattle.surf_surfaces.proofs.meshes.CellLaws.{surfaces_are_cells}
use Rattle.surf_surfaces.proofs.classes.SumLaws.{sum_from_total, total_from_sum}
use Rattle.surf_surfaces.proofs.walks.GraphWalkLaws.{graph_walk, walks_are_graph_walks, closed_parity_even}

pub independence_is_that_of_chains : IndependenceIsThatOfChains
independence_is_that_of_chains mesh walks = (
  (λ free choice null.
      let same = chosen-map (parity mesh) choice walks in
      same ∙ ap (map (parity mesh))
      (free choice (total_from_sum mesh (chosen choice walks)
      (subst (λ xs. IsNullChain (cells_of mesh) (sum_of chains xs)) same null)))),
  (λ free choice null.
      let same = chosen-map (parity mesh) choice walks in
      map_nil (parity mesh) (chosen choice walks)
      (sym same ∙ free choice (subst (λ xs. IsNullChain (cells_of mesh) (sum_of chains xs)) (sym same)
      (sum_from_total mesh (chosen choice walks) null)))),
)

even_walks : (mesh : Mesh) → IsSurface mesh → (walks : List (List ℕ)) → AllByRecursion (IsClosed mesh) walks →
    AllByRecursion (IsEven (primal (cells_of mesh))) (map (parity mesh) walks)
even_walks mesh surface [] h = tt
even_walks mesh surface (w ∷ ws) h = (closed_parity_even mesh surface w h.0, even_walks mesh surface ws h.1)

all_even : (mesh : Mesh) → IsSurface mesh → (walks : List (List ℕ)) → All (IsClosed mesh) walks →
    All (IsEven (primal (cells_of mesh))) (map (parity mesh) walks)
all_even mesh surface walks closed = All-from_recursion (IsEven (primal (cells_of mesh))) (map (parity mesh) walks)
    (even_walks mesh surface walks (recursion_from_All (IsClosed mesh) walks closed))

pub null_by_class : NullByClass
null_by_class mesh d surface split walk closed =
    let cells = (surfaces_are_cells mesh surface).complex in (
      null_zero (cells_of mesh) d cells split (parity mesh walk),
      zero_null (cells_of mesh) d cells split
          (parity mesh walk) (closed_parity_even mesh surface walk closed),
    )

pub independent_by_classes : IndependentByClasses
independent_by_classes mesh d surface split walks closed =
    let cells = (surfaces_are_cells mesh surface).complex in
    let is = independence_is_that_of_chains mesh walks in
    let same = map-map (signature_of (cells_of mesh) d) (parity mesh) walks in (
      (λ free. subst (Independent numbers) same
          (signatures_from_independent (cells_of mesh) d cells split (map (parity mesh) walks)
          (all_even mesh surface walks closed) (is.0 free))),
      (λ free. is.1 (independent_from_signatures (cells_of mesh) d cells split (map (parity mesh) walks)
          (subst (Independent numbers) (sym same) free))),
    )

pub some_vertex : (mesh : Mesh) → IsSurface mesh → 0 < mesh.vertices
some_vertex mesh surface =
    let face = surface.is_mesh 0 [] surface.some_face in
    let inside = face.inside 0 0 (omega (arith, face.large)) in
    omega (arith, inside)

pub some_split : (mesh : Mesh) → IsSurface mesh → (d : Split) × IsSplit (cells_of mesh) d
some_split mesh surface = split_exists (cells_of mesh) (surfaces_are_cells mesh surface).complex
    (some_vertex mesh surface) surface.some_face

pub independent_walks_are_few : IndependentWalksAreFew
independent_walks_are_few mesh surface walks closed free =
    let (d, split) = some_split mesh surface in
    let cells = (surfaces_are_cells mesh surface).complex in
    let few = independent_bound (cells_of mesh) d cells split (map (parity mesh) walks)
    (all_even mesh surface walks closed) ((independence_is_that_of_chains mesh walks).0 free) in
    let n = length-map walks (parity mesh) in
    let count = left_edges (cells_of mesh) d split in
    omega arith

-- ---- totals

pub weights_of_walks : (mesh : Mesh) (lengths : List ℕ) (walks : List (List ℕ)) →
    sum (weights (map (weighed_walk mesh lengths) walks)) ≡ total mesh lengths walks
weights_of_walks mesh lengths walks = ap sum (map-map (λ w. w.weight) (weighed_walk mesh lengths) walks)

-- independent closed walks, each a sum of walks that are no longer, total no less than as many of these
pub spanned_walks_least : (mesh : Mesh) (lengths : List ℕ) (d : Split) → IsSurface mesh → IsSplit (cells_of mesh) d →
    (walks others : List (List ℕ)) → length others ≡ length walks → All (IsClosed mesh) others →
    All (λ w. SpannedUpToWeight numbers (map (signed (cells_of mesh) d) (map (weighed_walk mesh lengths) walks))
    (signed (cells_of mesh) d (weighed_walk mesh lengths w))) others → IsIndependent mesh others →
    total mesh lengths walks ≤ total mesh lengths others
spanned_walks_least mesh lengths d surface split walks others count closed spanned free =
    let s = cells_of mesh in
    let ws = map (weighed_walk mesh lengths) walks in
    let os = map (weighed_walk mesh lengths) others in
    let bound = spanned_least s d (surfaces_are_cells mesh surface).complex split ws os
    (length-map others (weighed_walk mesh lengths) ∙ count ∙ sym (length-map walks (weighed_walk mesh lengths)))
    (All-from_recursion (λ w. IsEven (primal s) w.vector) os
    (evens others (recursion_from_All (IsClosed mesh) others closed)))
    (All-from_recursion (λ w. SpannedUpToWeight numbers (map (signed s d) ws) (signed s d w)) os
    (spans others (recursion_from_All _ others spanned)))
    (subst (AreIndependentChains s) (sym (map-map (λ w. w.vector) (weighed_walk mesh lengths) others))
    ((independence_is_that_of_chains mesh others).0 free)) in
    subst (λ n. n ≤ total mesh lengths others) (weights_of_walks mesh lengths walks)
    (subst (λ n. sum (weights ws) ≤ n) (weights_of_walks mesh lengths others) bound)
  where
    evens : (os : List (List ℕ)) → AllByRecursion (IsClosed mesh) os →
        AllByRecursion (λ w. IsEven (primal (cells_of mesh)) w.vector) (map (weighed_walk mesh lengths) os)
    evens [] h = tt
    evens (o ∷ os) h = (closed_parity_even mesh surface o h.0, evens os h.1)

    spans : (os : List (List ℕ)) →
        AllByRecursion (λ w. SpannedUpToWeight numbers
        (map (signed (cells_of mesh) d) (map (weighed_walk mesh lengths) walks))
        (signed (cells_of mesh) d (weighed_walk mesh lengths w))) os →
        AllByRecursion (λ w. SpannedUpToWeight numbers
        (map (signed (cells_of mesh) d) (map (weighed_walk mesh lengths) walks)) (signed (cells_of mesh) d w))
        (map (weighed_walk mesh lengths) os)
    spans [] h = tt
    spans (o ∷ os) h = (h.0, spans os h.1)

-- a closed walk at a shortest tree's root is a sum of cycles that are no longer, where the loops through the tree are
pub closed_walk_spanned : (mesh : Mesh) (lengths : List ℕ) (d : Split) → IsSurface mesh → (tree : Tree) →
    IsShortest (primal (cells_of mesh)) (edge_length lengths) tree → (cycles : List (Weighed Chain)) →
    ((e : ℕ) → e < edge_count mesh →
    SpannedUpToWeight numbers (map (signed (cells_of mesh) d) cycles)
    (signed (cells_of mesh) d (loop_chain (primal (cells_of mesh)) (edge_length lengths) tree e))) →
    (walk : List ℕ) → IsClosed mesh walk → first walk ≡ tree.root →
    SpannedUpToWeight numbers (map (signed (cells_of mesh) d) cycles)
    (signed (cells_of mesh) d (weighed_walk mesh lengths walk))
closed_walk_spanned mesh lengths d surface tree short cycles each walk closed at_root =
    let s = cells_of mesh in
    let w = graph_walk mesh surface lengths walk closed in
    let spanned = walk_spanned s (edge_length lengths) d (surfaces_are_cells mesh surface).complex tree short cycles
    each (first walk) (ap tree.rank at_root ∙ short.none_at_root) (tail walk) w.closed in
    same_vector (map (signed s d) cycles) _ _ _ _ (sym w.size)
    (signature_of-same s d (walk_chain (primal s) (first walk) (tail walk)) (parity mesh walk)
    (λ e l. sym (w.chain e l))) spanned
  where
    same_vector : (xs : List (Weighed ℕ)) (a b u v : ℕ) → a ≡ b → u ≡ v →
        SpannedUpToWeight numbers xs (record { weight = a; vector = u }) →
        SpannedUpToWeight numbers xs (record { weight = b; vector = v })
    same_vector xs a b u v e f h = subst (λ x. SpannedUpToWeight numbers xs (record { weight = b; vector = x })) f
        (subst (λ n. SpannedUpToWeight numbers xs (record { weight = n; vector = u })) e h)

-- ---- loops

-- the loop of an edge is a closed walk at the root, with the edges and the length of the loop
pub record RunsLoop (mesh : Mesh) (lengths : List ℕ) (tree : Tree) (e : ℕ) : Type 0 where
  pub closed : IsClosedAt mesh tree.root (loop_walk mesh tree e)
  pub parities : (h : ℕ) → h < edge_count mesh → parity mesh (loop_walk mesh tree e) h
      ≡ loop (primal (cells_of mesh)) tree e h
  pub size : walk_length mesh lengths (loop_walk mesh tree e) ≡ loop_length mesh lengths tree e

pub runs_loop : (mesh : Mesh) (lengths : List ℕ) → IsSurface mesh → (tree : Tree) →
    IsTree (primal (cells_of mesh)) tree → IsShortest (primal (cells_of mesh)) (edge_length lengths) tree → (e : ℕ) →
    e < edge_count mesh → RunsLoop mesh lengths tree e
runs_loop mesh lengths surface tree is_tree short e in' =
    let cells = surfaces_are_cells mesh surface in
    let walks = walks_are_graph_walks mesh surface in
    let runs = loop_runs (primal (cells_of mesh)) (edge_length lengths) tree cells.complex.primal_ends cells.one_edge
    is_tree short e in' in
    let back = walks.from_walk tree.root tree.root (tail (loop_walk mesh tree e)) is_tree.root_in runs.0 in
    record {
      closed = record { is_closed = record { is_walk = back.0; returns = sym back.1 }; at_base = refl };
      parities = λ h below. walks.parities tree.root (tail (loop_walk mesh tree e)) back.0 h below ∙ runs.1 h;
      size = walks.sizes lengths tree.root (tail (loop_walk mesh tree e)) back.0 ∙ runs.2;
    }
