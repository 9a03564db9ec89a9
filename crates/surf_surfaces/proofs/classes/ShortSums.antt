-- Independent closed walks, each a sum of walks that are no longer.
use Rattle.surf_surfaces.proofs.Common.{◌≡◌, ℕ, List, length, map, get_or, All, Contains, sym, ap, ◌∙◌, subst, arith, map-map, recursion_from_All, All-from_recursion, Contains-get_or, Split, IsSplit, signature_of, signed, Mesh, IsSurface, IsClosed, walk_length, IsIndependent, cells_of, class_of, weighed_walk, below}
use Rattle.surf_z2.specs.Space.{numbers, Independent, Weighed, weights, vectors, up_to, SpannedUpToWeight}
use Rattle.surf_z2.proofs.Ranks.{rank_law}
use Rattle.surf_surfaces.specs.Places.{count_up_to, AreNoLonger}
use Rattle.surf_surfaces.proofs.classes.ClassLaws.{independent_by_classes}
use Rattle.surf_surfaces.proofs.classes.LeastLaws.{all_mapped}
use Rattle.surf_surfaces.proofs.classes.OrderedNumbers.{counted}

module _ (mesh : Mesh) (lengths : List ℕ) (d : Split) where
  -- walks with their lengths and classes
  abbrev pub signed_walks : List (List ℕ) → List (Weighed ℕ)
  signed_walks ws = map (signed (cells_of mesh) d) (map (weighed_walk mesh lengths) ws)

  classes : (ws : List (List ℕ)) → vectors (signed_walks ws) ≡ map (class_of mesh d) ws
  classes ws = map-map (λ x. x.vector) (signed (cells_of mesh) d) (map (weighed_walk mesh lengths) ws) ∙ map-map
      (λ w. signature_of (cells_of mesh) d w.vector) (weighed_walk mesh lengths) ws

  sizes_of : (ws : List (List ℕ)) → weights (signed_walks ws) ≡ map (walk_length mesh lengths) ws
  sizes_of ws = map-map (λ x. x.weight) (signed (cells_of mesh) d) (map (weighed_walk mesh lengths) ws) ∙ map-map
      (λ w. w.weight) (weighed_walk mesh lengths) ws

  counts_of : (limit : ℕ) (ws : List (List ℕ)) → length (up_to limit (signed_walks ws))
      ≡ count_up_to mesh lengths limit ws
  counts_of limit ws =
      counted (λ (x : Weighed ℕ). x.weight) limit (signed_walks ws) ∙ ap (below limit) (sizes_of ws)
      ∙ sym (counted (walk_length mesh lengths) limit ws)

  -- they are no shorter, place by place
  pub spanned_no_longer : IsSurface mesh → IsSplit (cells_of mesh) d → (ws others : List (List ℕ)) →
      All (IsClosed mesh) others → IsIndependent mesh others →
      ((w : List ℕ) → Contains others w →
      SpannedUpToWeight numbers (signed_walks ws) (signed (cells_of mesh) d (weighed_walk mesh lengths w))) →
      AreNoLonger mesh lengths ws others
  spanned_no_longer surface split ws others closed free spanned limit =
      let s = cells_of mesh in
      let bound = rank_law numbers (signed_walks ws) (signed_walks others)
      (subst (Independent numbers) (sym (classes others)) ((independent_by_classes mesh d surface split others closed).0 free))
      (All-from_recursion (SpannedUpToWeight numbers (signed_walks ws)) (signed_walks others)
      (all_mapped (SpannedUpToWeight numbers (signed_walks ws)) (signed s d) (map (weighed_walk mesh lengths) others)
      (all_mapped (λ x. SpannedUpToWeight numbers (signed_walks ws) (signed s d x)) (weighed_walk mesh lengths) others
      (recursion_from_All
      (λ w. SpannedUpToWeight numbers (signed_walks ws) (signed s d (weighed_walk mesh lengths w))) others
      (λ k n l. spanned (get_or others k n) (Contains-get_or others k n l)))))) limit in
      omega (arith, bound, counts_of limit ws, counts_of limit others)
