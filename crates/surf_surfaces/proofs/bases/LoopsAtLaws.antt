-- The loops at one base, in order.
use Rattle.surf_surfaces.proofs.Common.{◌≡◌, ℕ, suc, ◌+◌, ◌<◌, ◌≤◌, true, false, List, [], ◌∷◌, map, All, IsPermutation, refl, sym, ap, ◌∙◌, subst, arith, inl, inr, ◌⊎◌, AllByRecursion, cases_Bool, nat_tests, map-map, All-from_recursion, All-contains, Tree, IsTree, IsShortest, Mesh, edge_count, IsSurface, cells_of, weighed_walk, loop_walk, Trees, AreChosenAt, Loop, comes_before, walks, loop_at, loops_at, IsPermutation-map, primal, IsSplit, IsHeaviest, IsClosedAt, edge_length, walk_length, ArePositive, IsIndependent, IsLeastLoopSystem, AreNoLonger}
use Rattle.surf_z2.proofs.Merge.{Sorted, Comparable, sorted-permutes, sorted-in_order, order_from_sorted, all_sorted}
use Rattle.surf_surfaces.specs.Cotree.{is_left, left_edges, split_of}
use Rattle.surf_surfaces.specs.ChoiceLaws.{LoopsAreLeast}
use Rattle.surf_surfaces.proofs.classes.ClassLaws.{runs_loop, closed_walk_spanned}
use Rattle.surf_surfaces.proofs.classes.LeastLaws.{map-same, all_each, all_mapped, left_spans, left_loops_are_least}
use Rattle.surf_surfaces.proofs.classes.ShortSums.{spanned_no_longer}
use Rattle.surf_surfaces.proofs.walks.ShortestTreeLaws.{shortest_is_tree, shortest_is_shortest}
use Rattle.surf_surfaces.proofs.classes.CotreeLaws.{Climbs, passing_climb, passing_each, is_split, is_heaviest}

-- ---- the order of loops

pub comes_before-trans : (a b c : Loop) → comes_before a b ≡ true → comes_before b c ≡ true → comes_before a c ≡ true
comes_before-trans a b c h k = grind (arith, nat_tests)

pub comes_before-strict : (a : Loop) → comes_before a a ≡ false
comes_before-strict a = grind (arith, nat_tests)

pub comes_before-size : (a b : Loop) → comes_before a b ≡ true → a.size ≤ b.size
comes_before-size a b h = grind (arith, nat_tests)

other_edge : (a b : Loop) → a.base ≡ b.base → a.edge < b.edge → comes_before a b ≡ false → comes_before b a ≡ true
other_edge a b e l h = grind (arith, nat_tests)

other_base : (a b : Loop) → a.base < b.base → comes_before a b ≡ false → comes_before b a ≡ true
other_base a b l h = grind (arith, nat_tests)

pub edges_apart : (a b : Loop) → a.base ≡ b.base → a.edge < b.edge →
    (comes_before a b ≡ true) ⊎ (comes_before b a ≡ true)
edges_apart a b e l = elim (cases_Bool (comes_before a b)) [ inl h ↦ inl h | inr h ↦ inr (other_edge a b e l h) ]

pub bases_apart : (a b : Loop) → a.base < b.base → (comes_before a b ≡ true) ⊎ (comes_before b a ≡ true)
bases_apart a b l = elim (cases_Bool (comes_before a b)) [ inl h ↦ inl h | inr h ↦ inr (other_base a b l h) ]

-- ---- loops of increasing edges

above : (low : ℕ) (xs : List ℕ) → Climbs low xs → AllByRecursion (λ y. low ≤ y) xs
above low [] c = tt
above low (x ∷ xs) c =
    (c.0, all_each (λ y. suc x ≤ y) (λ y. low ≤ y) xs (λ y h. omega (arith, c.0, h)) (above (suc x) xs c.1))

comparable_loops : (mesh : Mesh) (lengths : List ℕ) (base : ℕ) (tree : Tree) (low : ℕ) (xs : List ℕ) → Climbs low xs →
    Comparable comes_before comes_before-trans (map (loop_at mesh lengths base tree) xs)
comparable_loops mesh lengths base tree low [] c = tt
comparable_loops mesh lengths base tree low (x ∷ xs) c = (
  all_mapped (λ d. (comes_before (loop_at mesh lengths base tree x) d ≡ true)
      ⊎ (comes_before d (loop_at mesh lengths base tree x) ≡ true)) (loop_at mesh lengths base tree) xs
      (all_each (λ y. suc x ≤ y)
      (λ y. (comes_before (loop_at mesh lengths base tree x) (loop_at mesh lengths base tree y) ≡ true)
      ⊎ (comes_before (loop_at mesh lengths base tree y) (loop_at mesh lengths base tree x) ≡ true)) xs
      (λ y h. edges_apart (loop_at mesh lengths base tree x) (loop_at mesh lengths base tree y) refl (omega (arith, h)))
      (above (suc x) xs c.1)),
  comparable_loops mesh lengths base tree (suc x) xs c.1,
)

-- a loop is that of its edge, which is a left edge
pub record IsLoopAt (mesh : Mesh) (lengths : List ℕ) (base : ℕ) (trees : Trees) (c : Loop) : Type 0 where
  pub edge_in : c.edge < edge_count mesh
  pub left : is_left mesh trees.tree trees.cotree c.edge ≡ true
  pub is : c ≡ loop_at mesh lengths base trees.tree c.edge

map-itself : (xs : List ℕ) → map (λ x. x) xs ≡ xs
map-itself [] = refl
map-itself (x ∷ xs) = ap (λ ys. x ∷ ys) (map-itself xs)

module _ (mesh : Mesh) (lengths : List ℕ) (base : ℕ) (trees : Trees) where
  pub loops-sorted : Sorted comes_before (loops_at mesh lengths base trees)
  loops-sorted = sorted-in_order comes_before comes_before-trans
      (map (loop_at mesh lengths base trees.tree) (left_edges mesh trees.tree trees.cotree))
      (comparable_loops mesh lengths base trees.tree 0 (left_edges mesh trees.tree trees.cotree)
      (passing_climb (is_left mesh trees.tree trees.cotree) 0 (edge_count mesh)))

  pub loops_each : AllByRecursion (IsLoopAt mesh lengths base trees) (loops_at mesh lengths base trees)
  loops_each =
      all_sorted comes_before comes_before-trans (IsLoopAt mesh lengths base trees)
      (map (loop_at mesh lengths base trees.tree) (left_edges mesh trees.tree trees.cotree))
      (all_mapped (IsLoopAt mesh lengths base trees) (loop_at mesh lengths base trees.tree)
      (left_edges mesh trees.tree trees.cotree)
      (all_each (λ x. (x < 0 + edge_count mesh) × (is_left mesh trees.tree trees.cotree x ≡ true))
      (λ x. IsLoopAt mesh lengths base trees (loop_at mesh lengths base trees.tree x))
      (left_edges mesh trees.tree trees.cotree)
      (λ x h. record { edge_in = omega (arith, h.0); left = h.1; is = refl })
      (passing_each (is_left mesh trees.tree trees.cotree) 0 (edge_count mesh))))

  -- the edges of the loops, in their order
  abbrev pub loop_edges : List ℕ
  loop_edges = map (λ c. c.edge) (loops_at mesh lengths base trees)

  pub edges_permute : IsPermutation (left_edges mesh trees.tree trees.cotree)
      (map (λ c. c.edge) (loops_at mesh lengths base trees))
  edges_permute =
      let left = left_edges mesh trees.tree trees.cotree in
      let same : map (λ c. c.edge) (map (loop_at mesh lengths base trees.tree) left) ≡ left =
      map-map (λ c. c.edge) (loop_at mesh lengths base trees.tree) left ∙ map-itself left in
      subst (λ xs. IsPermutation xs (map (λ c. c.edge) (loops_at mesh lengths base trees))) same
      (IsPermutation-map (λ c. c.edge) (map (loop_at mesh lengths base trees.tree) left)
      (loops_at mesh lengths base trees)
      (sorted-permutes comes_before (map (loop_at mesh lengths base trees.tree) left)))

  pub loops_walks : walks (loops_at mesh lengths base trees) ≡ map (loop_walk mesh trees.tree)
      (map (λ c. c.edge) (loops_at mesh lengths base trees))
  loops_walks =
      map-same (λ c. c.walk) (λ c. loop_walk mesh trees.tree c.edge) (loops_at mesh lengths base trees)
      (all_each (IsLoopAt mesh lengths base trees) (λ c. c.walk ≡ loop_walk mesh trees.tree c.edge)
      (loops_at mesh lengths base trees) (λ c h. ap (λ x. x.walk) h.is) loops_each)
      ∙ sym (map-map (loop_walk mesh trees.tree) (λ c. c.edge) (loops_at mesh lengths base trees))

  module _ (surface : IsSurface mesh) (positive : ArePositive mesh lengths)
      (chosen : AreChosenAt mesh lengths base trees) where
    pub tree_is : IsTree (primal (cells_of mesh)) trees.tree
    tree_is = shortest_is_tree mesh lengths base trees.tree surface positive chosen.shortest

    pub tree_short : IsShortest (primal (cells_of mesh)) (edge_length lengths) trees.tree
    tree_short = shortest_is_shortest mesh lengths base trees.tree surface positive chosen.shortest

    pub split_is : IsSplit (cells_of mesh) (split_of mesh trees.tree trees.cotree)
    split_is = is_split mesh lengths trees.tree trees.cotree chosen.heaviest tree_is

    pub heaviest_is : IsHeaviest (cells_of mesh) (edge_length lengths) (split_of mesh trees.tree trees.cotree)
    heaviest_is = is_heaviest mesh lengths trees.tree trees.cotree chosen.heaviest

    pub loops_sized : AllByRecursion (λ c. walk_length mesh lengths c.walk ≡ c.size) (loops_at mesh lengths base trees)
    loops_sized = all_each (IsLoopAt mesh lengths base trees) (λ c. walk_length mesh lengths c.walk ≡ c.size)
        (loops_at mesh lengths base trees)
        (λ c h. ap (λ x. walk_length mesh lengths x.walk) h.is ∙
        (runs_loop mesh lengths surface trees.tree tree_is tree_short c.edge h.edge_in).size ∙ sym
        (ap (λ x. x.size) h.is)) loops_each

-- the loops that are chosen at a base are no longer, place by place, than independent closed walks there
pub chosen_loops_no_longer : (mesh : Mesh) (lengths : List ℕ) (base : ℕ) (trees : Trees) → IsSurface mesh →
    ArePositive mesh lengths → AreChosenAt mesh lengths base trees → (others : List (List ℕ)) →
    All (IsClosedAt mesh base) others → IsIndependent mesh others →
    AreNoLonger mesh lengths (walks (loops_at mesh lengths base trees)) others
chosen_loops_no_longer mesh lengths base trees surface positive chosen others closed free =
    let d = split_of mesh trees.tree trees.cotree in
    let left = map (λ c. c.edge) (loops_at mesh lengths base trees) in
    let split = split_is mesh lengths base trees surface positive chosen in
    let short = tree_short mesh lengths base trees surface positive chosen in
    let ws = map (loop_walk mesh trees.tree) left in
    subst (λ ws. AreNoLonger mesh lengths ws others) (sym (loops_walks mesh lengths base trees))
    (spanned_no_longer mesh lengths d surface split ws others (λ k n l. (closed k n l).is_closed) free (λ w at.
    let closed_at = All-contains (IsClosedAt mesh base) others w closed at in
    closed_walk_spanned mesh lengths d surface trees.tree short (map (weighed_walk mesh lengths) ws)
    (left_spans mesh lengths d left surface split short (edges_permute mesh lengths base trees)
    (heaviest_is mesh lengths base trees surface positive chosen)) w closed_at.is_closed
    (closed_at.at_base ∙ sym chosen.shortest.root)))

chosen_loops_least : (mesh : Mesh) (lengths : List ℕ) (base : ℕ) (trees : Trees) → IsSurface mesh →
    ArePositive mesh lengths → AreChosenAt mesh lengths base trees →
    IsLeastLoopSystem mesh lengths base (walks (loops_at mesh lengths base trees))
chosen_loops_least mesh lengths base trees surface positive chosen =
    let d = split_of mesh trees.tree trees.cotree in
    let one = left_loops_are_least mesh lengths d (map (λ c. c.edge) (loops_at mesh lengths base trees)) surface
    (split_is mesh lengths base trees surface positive chosen)
    (tree_short mesh lengths base trees surface positive chosen)
    (heaviest_is mesh lengths base trees surface positive chosen) (edges_permute mesh lengths base trees) in
    subst (IsLeastLoopSystem mesh lengths base) (sym (loops_walks mesh lengths base trees))
    (subst (λ b. IsLeastLoopSystem mesh lengths b
    (map (loop_walk mesh trees.tree) (map (λ c. c.edge) (loops_at mesh lengths base trees)))) chosen.shortest.root one)

pub loops_are_least : LoopsAreLeast
loops_are_least mesh lengths base trees surface positive chosen =
    let least = chosen_loops_least mesh lengths base trees surface positive chosen in
    record {
      least = least;
      least_in_order = record {
        is_system = least.is_system;
        least = chosen_loops_no_longer mesh lengths base trees surface positive chosen;
      };
      sizes = All-from_recursion (λ c. walk_length mesh lengths c.walk ≡ c.size) (loops_at mesh lengths base trees)
          (loops_sized mesh lengths base trees surface positive chosen);
      in_order = order_from_sorted comes_before (loops_at mesh lengths base trees)
          (loops-sorted mesh lengths base trees);
    }
