-- Closed walks over a vertex where their places are sought.
use Rattle.surf_surfaces.proofs.Common.{◌≡◌, ℕ, ◌<◌, ◌≤◌, true, List, ◌∷◌, map, filter, Contains, sym, subst, arith, AllByRecursion, map-map, numbers, Spanned, all_filtered, InSpan, in_from_spanned, spanned_from_in, primal, Split, IsSplit, IsGraphWalk, walk_chain, graph_walk_length, signature_of, Tree, Mesh, edge_count, IsSurface, IsClosed, edge_length, ArePositive, cells_of, class_of, AreShortestTrees, loop_walk, loop_length, DependsOn, in_wider, over_spanned, least_base, Place, is_no_later, place_at, Found, is_within, walks_within}
use Rattle.surf_surfaces.proofs.meshes.CellLaws.{surfaces_are_cells}
use Rattle.surf_surfaces.proofs.bases.FewBasesLaws.{no_later_from, no_later-trans, least_base_no_greater, loop_class}
use Rattle.surf_surfaces.proofs.bases.GreedyChoiceLaws.{spanned_from_depends, depends_from_spanned}
use Rattle.surf_surfaces.proofs.classes.LeastLaws.{all_mapped}
use Rattle.surf_caps.specs.Caps.{Sought, AreSoughtFromStart, AreEnoughFor}

module _ (mesh : Mesh) (d : Split) (surface : IsSurface mesh) (split : IsSplit (cells_of mesh) d) where
  -- what the loops up to a place span
  abbrev pub within : Place → List Found → List ℕ
  within limit ks = map (λ k. class_of mesh d k.walk) (filter (is_within limit) ks)

  pub depends_within : (ks : List Found) → AllByRecursion (λ k. IsClosed mesh k.walk) ks → (limit : Place)
      (walk : List ℕ) → IsClosed mesh walk → InSpan numbers (within limit ks) (class_of mesh d walk) →
      DependsOn mesh (walks_within limit ks) walk
  depends_within ks loops limit walk closed h =
      depends_from_spanned mesh d surface split (walks_within limit ks) walk
      (all_mapped (IsClosed mesh) (λ k. k.walk) (filter (is_within limit) ks)
      (all_filtered (is_within limit) (λ k. IsClosed mesh k.walk) ks loops)) closed
      (subst (λ vs. Spanned numbers vs (class_of mesh d walk))
      (sym (map-map (class_of mesh d) (λ k. k.walk) (filter (is_within limit) ks)))
      (spanned_from_in numbers (within limit ks) (class_of mesh d walk) h))

  pub within_depends : (ks : List Found) (limit : Place) (walk : List ℕ) → DependsOn mesh (walks_within limit ks) walk →
      InSpan numbers (within limit ks) (class_of mesh d walk)
  within_depends ks limit walk h =
      in_from_spanned numbers (within limit ks) (class_of mesh d walk)
      (subst (λ vs. Spanned numbers vs (class_of mesh d walk))
      (map-map (class_of mesh d) (λ k. k.walk) (filter (is_within limit) ks))
      (spanned_from_depends mesh d surface split (walks_within limit ks) walk h))

module _ (mesh : Mesh) (lengths : List ℕ) (trees : ℕ → Tree) (surface : IsSurface mesh)
    (positive : ArePositive mesh lengths) (shortest : AreShortestTrees mesh lengths trees) (d : Split)
    (split : IsSplit (cells_of mesh) d) where
  -- what a loop at z depends on that comes no later than it, comes no later than a closed walk that it is seen on
  pub seen_within : (found : List Found) (limit : Place) (z e : ℕ) →
      is_no_later (place_at mesh lengths trees z e) limit ≡ true →
      DependsOn mesh (walks_within (place_at mesh lengths trees z e) found) (loop_walk mesh (trees z) e) →
      InSpan numbers (within mesh d surface split limit found) (class_of mesh d (loop_walk mesh (trees z) e))
  seen_within found limit z e no_later depends =
      let place = place_at mesh lengths trees z e in
      in_wider numbers (λ k. class_of mesh d k.walk) (is_within place) (is_within limit)
      (λ k fits. no_later-trans (k.size, k.through) place limit fits no_later) found
      (class_of mesh d (loop_walk mesh (trees z) e))
      (within_depends mesh d surface split found place (loop_walk mesh (trees z) e) depends)

  -- what spans the loops at z that come no later than a closed walk spans that walk, where it goes over z
  pub over_by : (xs : List ℕ) (x size z : ℕ) (w : List ℕ) → x < mesh.vertices → z < mesh.vertices →
      IsGraphWalk (primal (cells_of mesh)) x w x → Contains (x ∷ w) z →
      graph_walk_length (primal (cells_of mesh)) (edge_length lengths) x w ≤ size →
      ((e : ℕ) → e < edge_count mesh → is_no_later (place_at mesh lengths trees z e) (size, x) ≡ true →
      InSpan numbers xs (class_of mesh d (loop_walk mesh (trees z) e))) →
      InSpan numbers xs (signature_of (cells_of mesh) d (walk_chain (primal (cells_of mesh)) x w))
  over_by xs x size z w x_in z_in closed over no_longer each =
      let s = cells_of mesh in
      let cells = surfaces_are_cells mesh surface in
      over_spanned s (edge_length lengths) d cells.complex cells.one_edge trees shortest.root shortest.is_tree
      shortest.shortest xs x z w x_in z_in closed over (λ e e_in is_seen.
      subst (InSpan numbers xs) (loop_class mesh lengths trees surface positive shortest d split z e z_in e_in)
      (each e e_in
      (no_later_from (loop_length mesh lengths (trees z) e) (least_base mesh trees z e) size x
      (omega (arith, is_seen.no_longer, no_longer)) (λ same.
      least_base_no_greater mesh lengths trees surface positive shortest z e x x_in
      (is_seen.on_way (let low = is_seen.no_longer in omega (arith, low, no_longer, same)))))))

  -- a closed walk over a vertex where its place is sought is a sum of those found that come no later
  pub over_vertex : (sought : Sought) → AreSoughtFromStart sought → (found : List Found) →
      AreEnoughFor mesh lengths trees sought found → (x size z : ℕ) (w : List ℕ) → x < mesh.vertices →
      z < mesh.vertices → sought z (size, x) ≡ true → IsGraphWalk (primal (cells_of mesh)) x w x → Contains (x ∷ w) z →
      graph_walk_length (primal (cells_of mesh)) (edge_length lengths) x w ≤ size →
      InSpan numbers (within mesh d surface split (size, x) found)
      (signature_of (cells_of mesh) d (walk_chain (primal (cells_of mesh)) x w))
  over_vertex sought starts found enough x size z w x_in z_in is_sought closed over no_longer =
      over_by (within mesh d surface split (size, x) found) x size z w x_in z_in closed over no_longer
      (λ e e_in no_later. seen_within found (size, x) z e no_later
      (enough.depend z e z_in e_in (starts z (place_at mesh lengths trees z e) (size, x) no_later is_sought)))
