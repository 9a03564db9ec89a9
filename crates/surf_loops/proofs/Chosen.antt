-- The loops that a desk holds are those that are chosen.
use Rattle.surf_surfaces.proofs.Common.{ℕ, ◌<◌, ◌≤◌, ◌≡◌, ◌≢◌, ◌^◌, ◌||◌, ◌&&◌, refl, sym, ap, ◌∙◌, subst, arith, inl, inr, List, [], ◌∷◌, length, map, get_or, true, false, eqb, ltb, All, IsPermutation, cases_lt, eq-eqb, ne_eqb, false≢true, nat_tests, get_or-map, length-map, get_or_default, recursion_from_All, IsInOrder, primal, IsSplit, IsTree, Mesh, edge_count, IsSurface, cells_of, ArePositive, IsClosed, IsIndependent, loop_length, loop_walk, Trees, Loop, AreChosenAt, comes_before, loop_at, loops_at, AllByRecursion, IsDistinct, IsNonDecreasingBy, IsPermutation-map, IsPermutation-sym, IsPermutation-trans, All-permutation, length_permutation}
use Rattle.std.proofs.lemmas.Map.Keys.{apart_from_distinct, IsDistinct-from_apart, IsDistinct-IsPermutation}
use Rattle.surf_z2.proofs.Merge.{merge_law, sorted-permutes, order_from_sorted}
use Rattle.surf_surfaces.specs.Cotree.{left_edges}
use Rattle.surf_surfaces.proofs.walks.ShortestTreeLaws.{shortest_is_tree}
use Rattle.surf_surfaces.proofs.classes.ClassLaws.{independent_walks_are_few}
use Rattle.surf_surfaces.proofs.bases.LoopsAtLaws.{comes_before-trans, comes_before-strict, loops-sorted, loops_are_least}
use Rattle.surf_lengths.specs.Lengths.{AreLengths}
use Rattle.surf_tree.specs.Tables.{tree_of}
use Rattle.surf_tree.specs.Grown.{IsGrown as IsTreeGrown}
use Rattle.surf_cotree.specs.Tables.{cotree_of, split_with}
use Rattle.surf_cotree.specs.Grown.{IsGrown as IsCotreeGrown, IsMarked}
use Rattle.surf_loops.specs.Heads.{head_of, order_of}
use Rattle.surf_loops.specs.Loops.{LoopTables, trees_of, loop_of, IsRooted, IsGreedy}
use Rattle.surf_loops.specs.declared.head.LoopHead.{LoopHead}
use Rattle.surf_loops.proofs.Rows.{grown_rooted}

-- a table of the left edges in the order of their loops has the loops at the base
sorted_tables_are_loops : (mesh : Mesh) (lengths : List ℕ) (base : ℕ) (trees : Trees) (table : List ℕ) → IsPermutation (left_edges mesh trees.tree trees.cotree) table →
    IsInOrder comes_before (map (loop_at mesh lengths base trees.tree) table) →
    map (loop_at mesh lengths base trees.tree) table ≡ loops_at mesh lengths base trees
sorted_tables_are_loops mesh lengths base trees table permuted in_order =
    let f : ℕ → Loop = loop_at mesh lengths base trees.tree in
    let left = left_edges mesh trees.tree trees.cotree in
    (merge_law {C = Loop} comes_before comes_before-trans comes_before-strict).only_order (map f table) (loops_at mesh lengths base trees) in_order
    (order_from_sorted comes_before (loops_at mesh lengths base trees) (loops-sorted mesh lengths base trees))
    (IsPermutation-trans (map f table) (map f left) (loops_at mesh lengths base trees)
    (IsPermutation-map f table left (IsPermutation-sym left table permuted)) (sorted-permutes comes_before (map f left)))

edge_of : LoopHead → ℕ
edge_of h = h.edge

edges_back : (weight : ℕ → ℕ) (xs : List ℕ) → map (λ (h : LoopHead). h.edge) (map (head_of weight) xs) ≡ xs
edges_back weight [] = refl
edges_back weight (x ∷ xs) = ap (λ ys. x ∷ ys) (edges_back weight xs)

-- heads in order, of different edges
head_order : (a b : LoopHead) (base : ℕ) → a.edge < 2 ^ 32 → b.edge < 2 ^ 32 → a.edge ≢ b.edge → order_of a ≤ order_of b →
    (ltb a.length b.length || (eqb a.length b.length && (ltb base base || (eqb base base && ltb a.edge b.edge)))) ≡ true
head_order a b base la lb ne le = elim (cases_lt a.length b.length) [
  | inl less ↦ grind (arith, nat_tests)
  | inr more ↦
      let same : a.length ≡ b.length = omega arith in
      let lt : a.edge < b.edge = omega arith in
      grind (arith, nat_tests)
]

module _ (mesh : Mesh) (lengths : List ℕ) (base : ℕ) (t : LoopTables) (weight : ℕ → ℕ) (surface : IsSurface mesh) (few : edge_count mesh < 2 ^ 32)
    (are : AreLengths lengths) (long : length lengths ≡ edge_count mesh)
    (tree : IsTreeGrown mesh lengths base t.tree) (loops : (e : ℕ) → e < edge_count mesh → weight e ≡ loop_length mesh lengths (tree_of t.tree) e)
    (cotree : IsCotreeGrown mesh t.tree.flags weight t.cotree)
    (same : IsPermutation (map (head_of weight) t.cotree.left) t.heads) (order : IsNonDecreasingBy order_of t.heads) where
  positive : ArePositive mesh lengths
  positive e l = (are e 0 (omega (arith, long, l))).positive

  spans : IsTree (primal (cells_of mesh)) (tree_of t.tree)
  spans = shortest_is_tree mesh lengths base (tree_of t.tree) surface positive tree.shortest

  marked : IsMarked mesh (tree_of t.tree) t.tree.flags
  marked = record { spans = spans; marks_are = tree.flags }

  chosen : AreChosenAt mesh lengths base (trees_of t)
  chosen = record { shortest = tree.shortest; heaviest = cotree.chosen lengths (tree_of t.tree) marked loops }

  left_is : t.cotree.left ≡ left_edges mesh (tree_of t.tree) (cotree_of t.cotree)
  left_is = cotree.left (tree_of t.tree) marked

  split_is : IsSplit (cells_of mesh) (split_with (tree_of t.tree) t.cotree)
  split_is = subst (λ xs. IsSplit (cells_of mesh) (record { tree = tree_of t.tree; cotree = cotree_of t.cotree; left = xs })) (sym left_is) (cotree.split (tree_of t.tree) marked)

  abbrev IsRight : LoopHead → Type 0
  IsRight h = (h.edge < edge_count mesh) × (h.length ≡ loop_length mesh lengths (tree_of t.tree) h.edge)

  right_each : All IsRight t.heads
  right_each = All-permutation IsRight (map (head_of weight) t.cotree.left) t.heads same (λ k d l.
      let n = length-map t.cotree.left (head_of weight) in
      let lk : k < length t.cotree.left = omega (arith, n, l) in
      let e_in : get_or t.cotree.left k 0 < edge_count mesh = split_is.left_in k lk in
      subst IsRight (sym (get_or-map (head_of weight) t.cotree.left k 0 d lk)) (e_in, loops (get_or t.cotree.left k 0) e_in))

  table : List ℕ
  table = map (λ (h : LoopHead). h.edge) t.heads

  permuted : IsPermutation t.cotree.left (map (λ (h : LoopHead). h.edge) t.heads)
  permuted = subst (λ xs. IsPermutation xs (map (λ (h : LoopHead). h.edge) t.heads)) (edges_back weight t.cotree.left)
      (IsPermutation-map (λ (h : LoopHead). h.edge) (map (head_of weight) t.cotree.left) t.heads same)

  distinct : IsDistinct eqb (map (λ (h : LoopHead). h.edge) t.heads)
  distinct = IsDistinct-IsPermutation eqb flips t.cotree.left (map (λ (h : LoopHead). h.edge) t.heads) permuted
      (IsDistinct-from_apart eqb t.cotree.left (λ i j d l lj. rising i j d l lj))
    where
      flips : (x y : ℕ) → eqb x y ≡ eqb y x
      flips x y = grind (arith, nat_tests)

      rising : (i j d : ℕ) → i < j → j < length t.cotree.left → eqb (get_or t.cotree.left i d) (get_or t.cotree.left j d) ≡ false
      rising i j d l lj =
          let li : i < length t.cotree.left = omega arith in
          let up = split_is.left_rises i j l lj in
          let a = get_or_default t.cotree.left i d 0 li in
          let b = get_or_default t.cotree.left j d 0 lj in
          ne_eqb (get_or t.cotree.left i d) (get_or t.cotree.left j d) (λ e. omega (arith, up, a, b, e))

  sized : (hs : List LoopHead) → AllByRecursion IsRight hs → map (loop_of mesh t) hs ≡ map (loop_at mesh lengths base (tree_of t.tree)) (map (λ (h : LoopHead). h.edge) hs)
  sized [] a = refl
  sized (h ∷ hs) a =
      let head : loop_of mesh t h ≡ loop_at mesh lengths base (tree_of t.tree) h.edge =
      λ i. record { size = a.0.1 i; base = tree.base_is i; edge = h.edge; walk = loop_walk mesh (tree_of t.tree) h.edge } in
      ap (λ (x : Loop). x ∷ map (loop_of mesh t) hs) head ∙ ap (λ xs. loop_at mesh lengths base (tree_of t.tree) h.edge ∷ xs) (sized hs a.1)

  ordered : IsInOrder comes_before (map (loop_of mesh t) t.heads)
  ordered i j d l lj =
      let n = length-map t.heads (loop_of mesh t) in
      let hd = head_of weight 0 in
      let hj : j < length t.heads = omega (arith, n, lj) in
      let hi : i < length t.heads = omega (arith, hj, l) in
      let a = get_or t.heads i hd in
      let b = get_or t.heads j hd in
      let at_i = get_or-map (loop_of mesh t) t.heads i hd d hi in
      let at_j = get_or-map (loop_of mesh t) t.heads j hd d hj in
      let nt = length-map t.heads (λ (h : LoopHead). h.edge) in
      let apart : eqb (get_or (map (λ (h : LoopHead). h.edge) t.heads) i 0) (get_or (map (λ (h : LoopHead). h.edge) t.heads) j 0) ≡ false =
      apart_from_distinct eqb (map (λ (h : LoopHead). h.edge) t.heads) i j 0 distinct l (omega (arith, nt, hj)) in
      let ei : get_or (map (λ (h : LoopHead). h.edge) t.heads) i 0 ≡ a.edge = get_or-map (λ (h : LoopHead). h.edge) t.heads i hd 0 hi in
      let ej : get_or (map (λ (h : LoopHead). h.edge) t.heads) j 0 ≡ b.edge = get_or-map (λ (h : LoopHead). h.edge) t.heads j hd 0 hj in
      let differ : a.edge ≢ b.edge = λ e. false≢true (sym apart ∙ eq-eqb (get_or (map (λ (h : LoopHead). h.edge) t.heads) i 0) (get_or (map (λ (h : LoopHead). h.edge) t.heads) j 0) (ei ∙ e ∙ sym ej)) in
      let la = right_each i hd hi in
      let lb = right_each j hd hj in
      let up = order i j hd (omega (arith, l)) hj in
      rw (at_i, at_j) (head_order a b t.tree.base (omega (arith, la.0, few)) (omega (arith, lb.0, few)) differ up)

  heads_are : map (loop_of mesh t) t.heads ≡ loops_at mesh lengths base (trees_of t)
  heads_are =
      let e = sized t.heads (recursion_from_All IsRight t.heads right_each) in
      e ∙ sorted_tables_are_loops mesh lengths base (trees_of t) (map (λ (h : LoopHead). h.edge) t.heads)
      (subst (λ xs. IsPermutation xs (map (λ (h : LoopHead). h.edge) t.heads)) left_is permuted)
      (subst (IsInOrder comes_before) e ordered)

  most : (walks : List (List ℕ)) → All (IsClosed mesh) walks → IsIndependent mesh walks → length walks ≤ length t.heads
  most walks closed free =
      let few_walks = independent_walks_are_few mesh surface walks closed free in
      let n = length_permutation (map (head_of weight) t.cotree.left) t.heads same in
      let m = length-map t.cotree.left (head_of weight) in
      omega (arith, few_walks, cotree.count, n, m)

  rooted : IsRooted mesh t.tree
  rooted = grown_rooted mesh lengths base t.tree surface positive tree

  pub greedy_tables : IsGreedy mesh lengths base t
  greedy_tables = record {
    made = record { tree = tree.made; cotree = cotree.made };
    tree = tree;
    weight = weight;
    weighs = loops;
    cotree = cotree;
    rooted = rooted;
    grown = record { made = cotree.made; root = cotree.root; tree = tree_of t.tree; split = split_is };
    chosen = chosen;
    heads = heads_are;
    least = loops_are_least mesh lengths base (trees_of t) surface positive chosen;
    most = most;
  }
