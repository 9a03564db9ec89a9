-- The loops of a valid certificate are a least loop system.
use Rattle.surf_surfaces.proofs.Common.{◌≡◌, ℕ, ◌+◌, List, [], ◌∷◌, map, sum, Contains, refl, sym, ap, ◌∙◌, subst, get_or, AllByRecursion, map-map, recursion_from_All, sum_by-cons, Tree, IsTree, IsShortest, Mesh, pair_of, edges, IsSurface, edge_length, edge_number, walk_length, ArePositive, cells_of, loop_walk, primal, dual, IsHeaviest, total, IsLeastLoopSystem}
use Rattle.surf_surfaces.specs.Cotree.{left_edges, split_of}
use Rattle.surf_surfaces.proofs.meshes.EdgeLaws.{place_of-among, among-contains}
use Rattle.surf_surfaces.proofs.classes.ClassLaws.{runs_loop}
use Rattle.surf_surfaces.proofs.classes.LeastLaws.{left_loops_are_least}
use Rattle.surf_validity.specs.Rows.{LoopCert}
use Rattle.surf_validity.specs.Valid.{certified_tree, dual_tree, loop_size, certified_loops, loops_total, IsValidLoops}
use Rattle.surf_validity.specs.Laws.{ValidLoopsAreLeast}
use Rattle.surf_validity.proofs.TreeLaws.{rows_are_tree, rows_are_shortest, rows_in_tree}
use Rattle.surf_validity.proofs.DualLaws.{dual_rows_are_tree, dual_rows_in_tree}
use Rattle.surf_validity.proofs.SplitLaws.{AreApart, is_split, listed_permute, left_listed}

module _ (mesh : Mesh) (lengths : List ℕ) (cert : LoopCert) (surface : IsSurface mesh)
    (positive : ArePositive mesh lengths) (valid : IsValidLoops mesh lengths cert) where
  abbrev tree : Tree
  tree = certified_tree mesh cert.tree

  abbrev cotree : Tree
  cotree = dual_tree mesh cert.dual

  tree_is : IsTree (primal (cells_of mesh)) tree
  tree_is = rows_are_tree mesh lengths cert.tree surface positive valid.shape.base valid.tree

  short : IsShortest (primal (cells_of mesh)) (edge_length lengths) tree
  short = rows_are_shortest mesh lengths cert.tree surface positive valid.shape.base valid.tree

  cotree_is : IsTree (dual (cells_of mesh)) cotree
  cotree_is = dual_rows_are_tree mesh cert.dual surface valid.dual

  apart : AreApart mesh tree cotree cert.left
  apart = record {
    one_of = λ e l. rw (
      rows_in_tree mesh lengths cert.tree surface positive valid.shape.base valid.tree e l,
      dual_rows_in_tree mesh cert.dual surface valid.dual e l,
    ) (valid.divided.divided e l);
  }

  heaviest : IsHeaviest (cells_of mesh) (edge_length lengths) (split_of mesh tree cotree)
  heaviest k e k_in e_in on parted =
      let l = get_or (left_edges mesh tree cotree) k 0 in
      let is = left_listed mesh tree cotree cert.left apart k k_in in
      valid.heaviest l is.0 is.1 e e_in parted

  sizes : (ps : List (ℕ × ℕ)) → AllByRecursion (λ p. Contains (edges mesh) (pair_of p)) ps →
      sum (map (walk_length mesh lengths) (map (λ p. loop_walk mesh tree (edge_number mesh p)) ps))
      ≡ sum (map (λ p. loop_size mesh lengths cert.tree (edge_number mesh p)) ps)
  sizes [] h = refl
  sizes (p ∷ ps) h =
      let at = place_of-among (pair_of p) (edges mesh) (0, 0) (among-contains (pair_of p) (edges mesh) h.0) in
      let one = (runs_loop mesh lengths surface tree tree_is short (edge_number mesh p) at.0).size in
      let size : ℕ × ℕ → ℕ = λ q. loop_size mesh lengths cert.tree (edge_number mesh q) in
      let loops : List (List ℕ) = map (λ q. loop_walk mesh tree (edge_number mesh q)) ps in
      let front : sum (map (walk_length mesh lengths) (loop_walk mesh tree (edge_number mesh p) ∷ loops))
      ≡ walk_length mesh lengths (loop_walk mesh tree (edge_number mesh p)) + sum (map (walk_length mesh lengths) loops) =
      sum_by-cons (λ n. n) (walk_length mesh lengths (loop_walk mesh tree (edge_number mesh p)))
      (map (walk_length mesh lengths) loops) in
      let back : sum (map size (p ∷ ps)) ≡ size p + sum (map size ps) = sum_by-cons (λ n. n) (size p) (map size ps) in
      front ∙ ap (λ n. n + sum (map (walk_length mesh lengths) loops)) one
      ∙ ap (λ n. size p + n) (sizes ps h.1) ∙ sym back

  least : IsLeastLoopSystem mesh lengths cert.tree.base (certified_loops mesh cert)
  least =
      let numbers = map (edge_number mesh) cert.left in
      let same : map (loop_walk mesh tree) numbers ≡ certified_loops mesh cert =
      map-map (loop_walk mesh tree) (edge_number mesh) cert.left in
      subst (IsLeastLoopSystem mesh lengths cert.tree.base) same
      (left_loops_are_least mesh lengths (split_of mesh tree cotree) numbers surface
      (is_split mesh tree cotree cert.left apart tree_is cotree_is) short heaviest
      (listed_permute mesh tree cotree cert.left apart tree_is cotree_is valid.shape.loops))

  both : IsLeastLoopSystem mesh lengths cert.tree.base (certified_loops mesh cert)
      × (total mesh lengths (certified_loops mesh cert) ≡ loops_total mesh lengths cert)
  both = (
    least,
    sizes cert.left
        (recursion_from_All (λ p. Contains (edges mesh) (pair_of p)) cert.left valid.divided.are_edges),
  )

pub valid_loops_are_least : ValidLoopsAreLeast
valid_loops_are_least mesh lengths cert surface positive valid = both mesh lengths cert surface positive valid
