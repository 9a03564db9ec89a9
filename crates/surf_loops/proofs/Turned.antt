-- Ways in a tree, and marked trees.
use Rattle.surf_surfaces.proofs.Common.{ℕ, ◌<◌, ◌≡◌, ◌≢◌, sym, ap, ◌∙◌, subst, inl, inr, List, [], ◌∷◌, ◌++◌, reverse, length, get_or, slice_index, Option, Some, None, Bool, cases_eq, get_or_default, Tree, primal, Mesh, cells_of, ArePositive, loop_walk, edge_count, ends, IsSurface, way_down, way_up}
use Rattle.surf_graphs.proofs.Ways.{ways_go_by_parents}
use Rattle.surf_graphs.proofs.Turned.{way_reversed}
use Rattle.surf_surfaces.proofs.walks.ShortestTreeLaws.{shortest_is_tree}
use Rattle.surf_tree.specs.Tables.{TreeTables, tree_of, parent_of}
use Rattle.surf_tree.specs.Grown.{IsGrown as IsTreeGrown}
use Rattle.surf_cotree.specs.Tables.{CotreeTables}
use Rattle.surf_cotree.specs.Grown.{IsGrown as IsCotreeGrown, IsMarked}
use Rattle.surf_loops.specs.Loops.{IsRooted}

-- what comes after a vertex on the way up
pub record IsBelow (t : TreeTables) (n at parent : ℕ) : Type 0 where
  pub within : parent < n
  pub nearer : slice_index t.distances parent < slice_index t.distances at
  pub way : way_up (tree_of t) (slice_index t.distances at) at ≡ parent ∷ way_up (tree_of t) (slice_index t.distances parent) parent

some_of : (o : Option ℕ) → ℕ
some_of None = 0
some_of (Some x) = x

pub up_one : (mesh : Mesh) (t : TreeTables) (at parent : ℕ) → IsRooted mesh t → at < mesh.vertices → parent_of t at ≡ Some parent → IsBelow t mesh.vertices at parent
unfolding some_of
up_one mesh t at parent r l is =
    let ne : at ≢ t.base = λ e. (let none = sym r.base_alone ∙ ap (parent_of t) (sym e) ∙ is in cc) in
    let same : slice_index t.parents at ≡ parent = ap some_of (sym (r.parents at l ne) ∙ is) in
    let inside : slice_index t.parents at < mesh.vertices = r.spans.parent_in at l ne in
    let falls : slice_index t.distances (slice_index t.parents at) < slice_index t.distances at = r.spans.rank_falls at l ne in
    let by = ways_go_by_parents (primal (cells_of mesh)) (tree_of t) r.spans in
    subst (λ p. IsBelow t mesh.vertices at p) same (record { within = inside; nearer = falls; way = by.up_step at l ne })

pub up_end : (mesh : Mesh) (t : TreeTables) (at : ℕ) → IsRooted mesh t → at < mesh.vertices → parent_of t at ≡ None → way_up (tree_of t) (slice_index t.distances at) at ≡ []
up_end mesh t at r l is = elim (cases_eq at t.base) [
  | inl same ↦
      let by = ways_go_by_parents (primal (cells_of mesh)) (tree_of t) r.spans in
      subst (λ m. way_up (tree_of t) (slice_index t.distances m) m ≡ []) (sym same) by.up_root
  | inr ne ↦ let some = sym is ∙ r.parents at l ne in cc
]

-- the way up from one end turned, and then that from the other
pub loop_listed : (mesh : Mesh) (t : TreeTables) (e u v : ℕ) (l0 l1 l2 l3 : List ℕ) → IsRooted mesh t → u < mesh.vertices → u ≡ (ends mesh e).0 → v ≡ (ends mesh e).1 →
    l0 ≡ [] → l1 ≡ l0 ++ u ∷ way_up (tree_of t) (slice_index t.distances u) u → l2 ≡ reverse l1 →
    l3 ≡ l2 ++ v ∷ way_up (tree_of t) (slice_index t.distances v) v → l3 ≡ loop_walk mesh (tree_of t) e
loop_listed mesh t e u v l0 l1 l2 l3 r lu is_u is_v a b c d =
    let first : l1 ≡ u ∷ way_up (tree_of t) (slice_index t.distances u) u = b ∙ ap (λ xs. xs ++ u ∷ way_up (tree_of t) (slice_index t.distances u) u) a in
    let turned : l2 ≡ t.base ∷ way_down (tree_of t) (slice_index t.distances u) u = c ∙ ap reverse first ∙ way_reversed (primal (cells_of mesh)) (tree_of t) r.spans u lu in
    d ∙ ap (λ xs. xs ++ v ∷ way_up (tree_of t) (slice_index t.distances v) v) turned
    ∙ ap (λ n. t.base ∷ way_down (tree_of t) (slice_index t.distances n) n ++ (v ∷ way_up (tree_of t) (slice_index t.distances v) v)) is_u
    ∙ ap (λ n. t.base ∷ way_down (tree_of t) (slice_index t.distances (ends mesh e).0) (ends mesh e).0 ++ (n ∷ way_up (tree_of t) (slice_index t.distances n) n)) is_v

-- a grown tree marks its edges
pub tree_marks : (mesh : Mesh) (lengths : List ℕ) (base : ℕ) (t : TreeTables) → IsSurface mesh → ArePositive mesh lengths → IsTreeGrown mesh lengths base t → IsMarked mesh (tree_of t) t.flags
tree_marks mesh lengths base t surface positive tree = record { spans = shortest_is_tree mesh lengths base (tree_of t) surface positive tree.shortest; marks_are = tree.flags }

-- the left edges are edges
pub left_inside : (mesh : Mesh) (marks : List Bool) (weight : ℕ → ℕ) (tree : Tree) (t : CotreeTables) → IsMarked mesh tree marks → IsCotreeGrown mesh marks weight t →
    (k d : ℕ) → k < length t.left → get_or t.left k d < edge_count mesh
left_inside mesh marks weight tree t m g k d l =
    let is = g.left tree m in
    let s = g.split tree m in
    let lk = subst (λ (xs : List ℕ). k < length xs) is l in
    subst (λ (xs : List ℕ). get_or xs k d < edge_count mesh) (sym is)
    (subst (λ n. n < edge_count mesh) (sym (get_or_default _ k d 0 lk)) (s.left_in k lk))
