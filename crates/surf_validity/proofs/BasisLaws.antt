-- The cycles of a valid certificate are a least basis.
use Rattle.surf_surfaces.proofs.Common.{◌≡◌, ℕ, zero, suc, ◌<◌, ◌≤◌, true, List, [], ◌∷◌, length, get_or, map, take, replicate, All, Contains, refl, sym, ap, ◌∙◌, subst, arith, AllByRecursion, map-map, length-map, get_or_default, get_or-map, recursion_from_All, All-from_recursion, numbers, chosen, Independent, Spanned, SpannedUpToWeight, primal, Split, IsSplit, Tree, IsTree, IsShortest, loop, signature_of-same, Mesh, pair, pair_of, edges, steps, steps_from, edge_count, IsSurface, IsClosed, edge_length, parity, ArePositive, cells_of, class_of, weighed_walk, AreShortestTrees, loop_walk, walk_signature, joins_turned, joined_below, take-suc, take-length}
use Rattle.surf_z2.proofs.Basics.{independence_law, span_law}
use Rattle.surf_graphs.specs.Independence.{signature_of, signed, loop_chain, IsCovering}
use Rattle.surf_surfaces.specs.Homology.{IsBasis}
use Rattle.surf_surfaces.proofs.meshes.CellLaws.{surfaces_are_cells}
use Rattle.surf_surfaces.proofs.walks.GraphWalkLaws.{joined}
use Rattle.surf_surfaces.proofs.classes.ClassLaws.{runs_loop, independent_by_classes, some_vertex}
use Rattle.surf_surfaces.proofs.classes.LeastLaws.{map-same, all_each, weighed_same, covering_bases_are_least}
use Rattle.surf_surfaces.proofs.classes.SignatureLaws.{signatures_are_classes}
use Rattle.surf_validity.specs.Rows.{BasisCert}
use Rattle.surf_validity.specs.Valid.{certified_tree, dual_tree, IsTreeValid, IsDualValid, IsDivided}
use Rattle.surf_validity.specs.Bases.{tree_at, split_in, signatures, IsClosedList, weighed_cycle, weighed_loop, IsValidBasis}
use Rattle.surf_validity.specs.Laws.{ValidBasesAreLeast}
use Rattle.surf_validity.proofs.TreeLaws.{rows_are_tree, rows_are_shortest, rows_in_tree}
use Rattle.surf_validity.proofs.DualLaws.{dual_rows_are_tree, dual_rows_in_tree}
use Rattle.surf_validity.proofs.SplitLaws.{is_split}

-- what is in no sum of those before it is independent
independent_step_by_step : (xs : List ℕ) →
    ((k : ℕ) → k < length xs → Spanned numbers (take k xs) (get_or xs k 0) → ⊥) →
    (n : ℕ) → n ≤ length xs → Independent numbers (take n xs)
independent_step_by_step xs h zero l = (independence_law numbers).none
independent_step_by_step xs h (suc n) l =
    subst (Independent numbers) (sym (take-suc xs n 0 (omega arith)))
    ((independence_law numbers).push (take n xs) (get_or xs n 0) (independent_step_by_step xs h n (omega arith))
    (h n (omega arith)))

chosen_front : (n : ℕ) (xs : List ℕ) → chosen (replicate n true) xs ≡ take n xs
chosen_front zero xs = refl
chosen_front (suc n) [] = refl
chosen_front (suc n) (x ∷ xs) = ap (λ ys. x ∷ ys) (chosen_front n xs)

-- and the other way round
pub in_no_sum_before : (xs : List ℕ) → Independent numbers xs → (k : ℕ) → k < length xs →
    Spanned numbers (take k xs) (get_or xs k 0) → ⊥
in_no_sum_before xs free k l =
    (independence_law numbers).last (take k xs) (get_or xs k 0)
    (subst (Independent numbers) (chosen_front (suc k) xs ∙ take-suc xs k 0 l)
    ((independence_law numbers).some xs (replicate (suc k) true) free))

module _ (mesh : Mesh) (surface : IsSurface mesh) where
  -- the ends of a step along an edge are vertices
  step_inside : (u v : ℕ) → Contains (edges mesh) (pair u v) → (u < mesh.vertices) × (v < mesh.vertices)
  step_inside u v has =
      let g = primal (cells_of mesh) in
      let graph = (surfaces_are_cells mesh surface).complex.primal_ends in
      let (e, l, on) = joined mesh u v has in
      (joined_below g graph u v (e, l, on), joined_below g graph v u (e, l, joins_turned g u v e on))

  inside_from : (u : ℕ) (rest : List ℕ) → AllByRecursion (λ s. Contains (edges mesh) (pair_of s)) (steps_from u rest) →
      AllByRecursion (λ v. v < mesh.vertices) rest
  inside_from u [] h = tt
  inside_from u (v ∷ rest) h = ((step_inside u v h.0).1, inside_from v rest h.1)

  -- a closed list of neighbours with a step is a closed walk
  closed_walk : (u v : ℕ) (rest : List ℕ) → IsClosedList mesh (u ∷ v ∷ rest) → IsClosed mesh (u ∷ v ∷ rest)
  closed_walk u v rest is =
      let along = recursion_from_All (λ s. Contains (edges mesh) (pair_of s)) (steps (u ∷ v ∷ rest)) is.along_edges in
      record {
        is_walk = record {
          begins = is.begins;
          vertices = All-from_recursion (λ x. x < mesh.vertices) (u ∷ v ∷ rest)
              ((step_inside u v along.0).0, ((step_inside u v along.0).1, inside_from v rest along.1));
          along_edges = is.along_edges;
        };
        returns = is.returns;
      }

module _ (mesh : Mesh) (lengths : List ℕ) (cert : BasisCert) (surface : IsSurface mesh) where
  abbrev d : Split
  d = split_in mesh cert

  -- the trees at vertex 0 and the edges in neither are a split
  pub split_is : ArePositive mesh lengths → (tree_at cert 0).base < mesh.vertices →
      IsTreeValid mesh lengths (tree_at cert 0) → IsDualValid mesh cert.dual →
      IsDivided mesh (tree_at cert 0) cert.dual cert.left → IsSplit (cells_of mesh) (split_in mesh cert)
  split_is positive base_in tree faces divided =
      is_split mesh (certified_tree mesh (tree_at cert 0)) (dual_tree mesh cert.dual) cert.left (record {
        one_of = λ e l. rw (
          rows_in_tree mesh lengths (tree_at cert 0) surface positive base_in tree e l,
          dual_rows_in_tree mesh cert.dual surface faces e l,
        ) (divided.divided e l);
      }) (rows_are_tree mesh lengths (tree_at cert 0) surface positive base_in tree)
      (dual_rows_are_tree mesh cert.dual surface faces)

  -- the classes of closed walks are their signatures
  pub classes_are : (ws : List (List ℕ)) → AllByRecursion (IsClosed mesh) ws →
      map (class_of mesh (split_in mesh cert)) ws ≡ map (walk_signature mesh (split_in mesh cert)) ws
  classes_are ws closed =
      map-same (class_of mesh d) (walk_signature mesh d) ws
      (all_each (IsClosed mesh) (λ w. class_of mesh d w ≡ walk_signature mesh d w) ws
      (λ w is. sym (signatures_are_classes mesh d surface w is.is_walk)) closed)

  pub weighed_are : (ws : List (List ℕ)) → AllByRecursion (IsClosed mesh) ws →
      map (signed (cells_of mesh) (split_in mesh cert)) (map (weighed_walk mesh lengths) ws)
      ≡ map (weighed_cycle mesh lengths cert) ws
  weighed_are ws closed =
      map-map (signed (cells_of mesh) d) (weighed_walk mesh lengths) ws
      ∙ map-same (λ w. signed (cells_of mesh) d (weighed_walk mesh lengths w)) (weighed_cycle mesh lengths cert) ws
      (all_each (IsClosed mesh)
      (λ w. signed (cells_of mesh) d (weighed_walk mesh lengths w) ≡ weighed_cycle mesh lengths cert w) ws
      (λ w is. weighed_same _ _ refl (sym (signatures_are_classes mesh d surface w is.is_walk))) closed)

  -- the signature of the loop of an edge is that of its chain
  pub loop_signature : (tree : Tree) → IsTree (primal (cells_of mesh)) tree →
      IsShortest (primal (cells_of mesh)) (edge_length lengths) tree → (e : ℕ) → e < edge_count mesh →
      walk_signature mesh (split_in mesh cert) (loop_walk mesh tree e)
      ≡ signature_of (cells_of mesh) (split_in mesh cert) (loop (primal (cells_of mesh)) tree e)
  loop_signature tree is_tree short e l =
      let runs = runs_loop mesh lengths surface tree is_tree short e l in
      signatures_are_classes mesh d surface (loop_walk mesh tree e) runs.closed.is_closed.is_walk
      ∙ signature_of-same (cells_of mesh) d (parity mesh (loop_walk mesh tree e)) (loop (primal (cells_of mesh)) tree e)
      runs.parities

  module _ (positive : ArePositive mesh lengths) (valid : IsValidBasis mesh lengths cert) where
    base_in : (x : ℕ) → x < mesh.vertices → (tree_at cert x).base < mesh.vertices
    base_in x l = subst (λ b. b < mesh.vertices) (sym (valid.shape.bases x l)) l

    tree_is : (x : ℕ) → x < mesh.vertices → IsTree (primal (cells_of mesh)) (certified_tree mesh (tree_at cert x))
    tree_is x l = rows_are_tree mesh lengths (tree_at cert x) surface positive (base_in x l) (valid.trees x l)

    short : (x : ℕ) → x < mesh.vertices →
        IsShortest (primal (cells_of mesh)) (edge_length lengths) (certified_tree mesh (tree_at cert x))
    short x l = rows_are_shortest mesh lengths (tree_at cert x) surface positive (base_in x l) (valid.trees x l)

    trees : AreShortestTrees mesh lengths (λ x. certified_tree mesh (tree_at cert x))
    trees = record { root = valid.shape.bases; is_tree = tree_is; shortest = short }

    split : IsSplit (cells_of mesh) d
    split =
        let some = some_vertex mesh surface in
        split_is positive (base_in 0 some) (valid.trees 0 some) valid.dual valid.divided

    at_place : (k : ℕ) → k < length cert.cycles →
        get_or (signatures mesh cert) k 0 ≡ walk_signature mesh d (get_or cert.cycles k [])
    at_place k l = get_or-map (walk_signature mesh d) cert.cycles k [] 0 l

    closed_at : (k : ℕ) → k < length cert.cycles → IsClosed mesh (get_or cert.cycles k [])
    closed_at k l =
        by_steps (get_or cert.cycles k []) (valid.closed k [] l) (λ none. valid.independent k l
        (subst (Spanned numbers (take k (signatures mesh cert))) (sym (at_place k l ∙ none))
        ((span_law numbers).zero (take k (signatures mesh cert)))))
      where
        by_steps : (walk : List ℕ) → IsClosedList mesh walk → (walk_signature mesh d walk ≡ 0 → ⊥) → IsClosed mesh walk
        by_steps [] is some = absurd (omega (arith, is.begins))
        by_steps (u ∷ []) is some = absurd (some refl)
        by_steps (u ∷ v ∷ rest) is some = closed_walk mesh surface u v rest is

    closed : All (IsClosed mesh) cert.cycles
    closed k n l = subst (IsClosed mesh) (get_or_default cert.cycles k [] n l) (closed_at k l)

    closed_each : AllByRecursion (IsClosed mesh) cert.cycles
    closed_each = recursion_from_All (IsClosed mesh) cert.cycles closed

    classes : map (class_of mesh d) cert.cycles ≡ signatures mesh cert
    classes = classes_are cert.cycles closed_each

    independent : Independent numbers (signatures mesh cert)
    independent =
        let size = length-map cert.cycles (walk_signature mesh d) in
        subst (Independent numbers) (take-length (signatures mesh cert))
        (independent_step_by_step (signatures mesh cert)
        (λ k l. valid.independent k (omega (arith, l, size))) (length (signatures mesh cert)) (omega arith))

    basis : IsBasis mesh cert.cycles
    basis = record {
      closed = closed;
      count = valid.shape.loops.cycles;
      independent = (independent_by_classes mesh d surface split cert.cycles closed).1
          (subst (Independent numbers) (sym classes) independent);
    }

    covers : IsCovering (cells_of mesh) (edge_length lengths) d (λ x. certified_tree mesh (tree_at cert x))
        (map (weighed_walk mesh lengths) cert.cycles)
    covers x e x_in e_in =
        let tree = certified_tree mesh (tree_at cert x) in
        let target : weighed_loop mesh lengths cert x e
        ≡ signed (cells_of mesh) d (loop_chain (primal (cells_of mesh)) (edge_length lengths) tree e) =
        weighed_same _ _ refl (loop_signature tree (tree_is x x_in) (short x x_in) e e_in) in
        subst (SpannedUpToWeight numbers (map (signed (cells_of mesh) d) (map (weighed_walk mesh lengths) cert.cycles)))
        target
        (subst (λ xs. SpannedUpToWeight numbers xs (weighed_loop mesh lengths cert x e))
        (sym (weighed_are cert.cycles closed_each)) (valid.covered x e x_in e_in))

pub valid_bases_are_least : ValidBasesAreLeast
valid_bases_are_least mesh lengths cert surface positive valid =
    covering_bases_are_least mesh lengths (split_in mesh cert) (λ x. certified_tree mesh (tree_at cert x)) cert.cycles surface
    (split mesh lengths cert surface positive valid) (trees mesh lengths cert surface positive valid)
    (basis mesh lengths cert surface positive valid) (covers mesh lengths cert surface positive valid)
