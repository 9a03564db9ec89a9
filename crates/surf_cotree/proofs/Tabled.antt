-- What the tables of a desk hold.
use Rattle.surf_cotree.proofs.Common.{ℕ, ◌<◌, ◌≤◌, ◌≡◌, ◌≢◌, ◌+◌, ◌⊎◌, refl, sym, ap, ◌∙◌, subst, arith, inl, inr, List, length, filter, get_or, Bool, true, false, cond, not, ◌&&◌, eqb, eq-eqb, ne_eqb, Some, None, range_with_len, cases_eq, not-true, and_parts, nat_tests, any_below, any_below-same, dual, IsSplit, Tree, in_tree, tree_edge, Mesh, edge_count, face_count, faces_of, IsSurface, loop_count, cells_of, loop_length, passing_same, surfaces_are_cells, nobody, at, CotreeTables, cotree_of, AreCotreeTables, split_with, width_for, outside, is_unmarked, IsHeaviestTree, IsMarked, MarkTree, AreLoopLengths, IsGrown, IsGrownOn}
use Rattle.surf_surfaces.proofs.Common.{left_edges as left_count}
use Rattle.surf_graphs.proofs.CellLaws.{outside_joins}
use Rattle.surf_surfaces.specs.Cotree.{tree_edges, cotree_edges, is_left, left_edges, split_of, precedes, IsHeaviestCotree}
use Rattle.surf_surfaces.proofs.classes.CotreeLaws.{trees_split, not-false_is, between_inside}
use Rattle.surf_cotree.proofs.Growing.{Connects}

-- ---- a grown desk

-- the edges outside a tree of the vertices join all faces
pub unmarked_join : (mesh : Mesh) (marks : List Bool) → IsSurface mesh → MarkTree mesh marks → Connects (dual (cells_of mesh)) (outside marks)
unmarked_join mesh marks surface (tree, marked) set stays =
    outside_joins (cells_of mesh) (surfaces_are_cells mesh surface).complex tree marked.spans set
    (λ e l out. stays e l (ap not (marked.marks_are e l ∙ out)))

before_from : (weight loops : ℕ → ℕ) (a b : ℕ) → weight a ≡ loops a → weight b ≡ loops b → (weight a < weight b) ⊎ ((weight a ≡ weight b) × (a < b)) → precedes loops a b ≡ true
before_from weight loops a b wa wb h = elim h [
  | inl less ↦ let less_too : loops a < loops b = omega (arith, wa, wb) in grind (arith, nat_tests)
  | inr (even, lt) ↦ let even_too : loops a ≡ loops b = sym wa ∙ even ∙ wb in grind (arith, nat_tests)
]

-- what a desk's tables are written to be
pub record AreWritten (mesh : Mesh) (marks : List Bool) (weight : ℕ → ℕ) (t : CotreeTables) : Type 0 where
  pub surface : IsSurface mesh
  pub few : edge_count mesh ≤ nobody
  pub made : AreCotreeTables mesh t
  pub some_tree : MarkTree mesh marks
  pub heavy : IsHeaviestTree (dual (cells_of mesh)) (outside marks) weight (cotree_of t)
  pub root : at t.ups 0 ≡ nobody
  pub marked : (e : ℕ) → e < edge_count mesh → get_or t.held e false ≡ any_below (face_count mesh) (λ f. not (eqb (at t.ups f) nobody) && eqb (at t.ups f) e)
  pub listed : t.left ≡ filter (is_unmarked marks t.held) (range_with_len 0 (edge_count mesh))

module _ (mesh : Mesh) (marks : List Bool) (weight : ℕ → ℕ) (t : CotreeTables) (w : AreWritten mesh marks weight t) where
  has_up : (f : ℕ) → f < face_count mesh → f ≢ 0 → at t.ups f ≢ nobody
  has_up f l ne same = let u : at t.ups f < edge_count mesh = w.heavy.tree.up_in f l ne in let few = w.few in absurd (omega arith)

  same_root : (f : ℕ) → f < face_count mesh → eqb (at t.ups f) nobody ≡ eqb f 0
  same_root f l = elim (cases_eq f 0) [
    | inl same ↦ rw (same, eq-eqb (at t.ups 0) nobody w.root)
    | inr ne ↦ rw (ne_eqb (at t.ups f) nobody (has_up f l ne), ne_eqb f 0 ne)
  ]

  holds : (e : ℕ) → e < edge_count mesh → get_or t.held e false ≡ cotree_edges mesh (cotree_of t) e
  holds e l = w.marked e l ∙ any_below-same (face_count mesh) (λ f. not (eqb (at t.ups f) nobody) && eqb (at t.ups f) e) (λ f. not (eqb f 0) && eqb (at t.ups f) e) (λ f lf. rw (same_root f lf))

  module _ (tree : Tree) (m : IsMarked mesh tree marks) where
    unmarked : (e : ℕ) → e < edge_count mesh → outside marks e ≡ true → tree_edges mesh tree e ≡ false
    unmarked e l h = sym (m.marks_are e l) ∙ not-true (get_or marks e false) h

    apart : (e : ℕ) → e < edge_count mesh → cotree_edges mesh (cotree_of t) e ≡ true → tree_edges mesh tree e ≡ false
    apart e l on =
        let (f, f_in, ne, is) = tree_edge (dual (cells_of mesh)) (cotree_of t) e on in
        unmarked e l (ap (outside marks) (sym is) ∙ w.heavy.over f f_in ne)

    left_is : t.left ≡ left_edges mesh tree (cotree_of t)
    left_is = w.listed ∙ passing_same (is_unmarked marks t.held) (is_left mesh tree (cotree_of t)) 0 (edge_count mesh)
        (λ e l. let le : e < edge_count mesh = omega arith in rw (m.marks_are e le, holds e le))

    split_is : IsSplit (cells_of mesh) (split_of mesh tree (cotree_of t))
    split_is = trees_split mesh tree (cotree_of t) m.spans w.heavy.tree apart

    heaviest_is : (lengths : List ℕ) → AreLoopLengths mesh lengths tree weight → IsHeaviestCotree mesh lengths tree (cotree_of t)
    heaviest_is lengths loops = record {
      joins_faces = record {
        root = refl;
        spans = w.heavy.tree;
        root_depth = w.heavy.root_rank;
        depths = λ f l ne. let d = w.heavy.deep f l ne in omega (arith, d);
      };
      outside = λ e l on. apart e l on;
      heaviest = λ l k l_in left on.
          let g = dual (cells_of mesh) in
          let faces = (surfaces_are_cells mesh w.surface).complex.dual_ends l l_in in
          let both = and_parts (not (tree_edges mesh tree l)) (not (cotree_edges mesh (cotree_of t) l)) left in
          let k_on : in_tree g (cotree_of t) k ≡ true = between_inside g (cotree_of t) w.heavy.tree (faces_of mesh l).0 (faces_of mesh l).1 k faces.0 faces.1 on in
          let (f, f_in, ne, is) = tree_edge g (cotree_of t) k k_on in
          let k_in : k < edge_count mesh = subst (λ e. e < edge_count mesh) is (w.heavy.tree.up_in f f_in ne) in
          let free : outside marks l ≡ true = ap not (m.marks_are l l_in) ∙ both.0 in
          before_from weight (loop_length mesh lengths tree) l k (loops l l_in) (loops k k_in)
          (w.heavy.greater l k l_in free (not-false_is (cotree_edges mesh (cotree_of t) l) both.1) on);
    }

  pub grown_tables : IsGrown mesh marks weight t
  grown_tables =
      let (tree, m) = w.some_tree in
      record {
        made = w.made;
        heaviest = w.heavy;
        root = ap (λ b. cond b None (Some (at t.ups 0))) (eq-eqb (at t.ups 0) nobody w.root);
        parent_edges = λ f l ne. ap (λ b. cond b None (Some (at t.ups f))) (ne_eqb (at t.ups f) nobody (has_up f l ne));
        held = holds;
        left = left_is;
        split = split_is;
        count = ap (λ (xs : List ℕ). length xs + (mesh.vertices + face_count mesh)) (left_is tree m) ∙ left_count (cells_of mesh) (split_of mesh tree (cotree_of t)) (split_is tree m);
        chosen = λ lengths tree m loops. heaviest_is tree m lengths loops;
      }

-- there is room for the signatures of as many left edges as there are
pub width_enough : (mesh : Mesh) (t : CotreeTables) → IsGrownOn mesh t → length t.left ≤ 1024 → length t.left ≤ t.width
width_enough mesh t g few =
    let count : length t.left + (mesh.vertices + face_count mesh) ≡ edge_count mesh + 2 = left_count (cells_of mesh) (split_with g.tree t) g.split in
    let loops : loop_count mesh ≡ length t.left = omega (arith, count) in
    let width : t.width ≡ length t.left = g.made.width ∙ ap width_for loops ∙ small (length t.left) few in
    omega (arith, width)
  where
    small : (n : ℕ) → n ≤ 1024 → width_for n ≡ n
    small n l = grind (arith, nat_tests)
