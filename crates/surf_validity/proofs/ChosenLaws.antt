-- The certificate of the choice is valid.
use Rattle.surf_surfaces.proofs.Common.{unwrap_or, ◌≡◌, ◌≢◌, ℕ, zero, suc, ◌+◌, ◌<◌, ◌≤◌, Bool, true, false, not, ◌&&◌, ◌||◌, cond, eqb, List, [], ◌∷◌, length, get_or, map, Contains, refl, sym, ap, ◌∙◌, subst, arith, inl, inr, Some, None, AllByRecursion, list_any, range_with_len, cases_Bool, cases_eq, or_cases, and_parts, ne_eqb, eq-eqb, eqb-true, false≢true, true≢false, false_from_ne_true, lt-ltb, nat_tests, length-map, get_or-map, Contains-get_or, length-range_with_len, get_or-map-range_with_len, xor, any_below-same, primal, between, left_edges as left_count, Mesh, pair, pair_of, pair_eq, edges, face_count, edge_count, face_at, ends, faces_of, has_side, IsSurface, edge_length, edge_number, place_of, ArePositive, cells_of, Trees, AreChosenAt}
use Rattle.surf_graphs.specs.Trees.{Tree, IsTree, IsShortest, on_way, on_path, loop, graph_loop_length}
use Rattle.surf_surfaces.specs.Cotree.{tree_edges, cotree_edges, is_left, left_edges, split_of, precedes}
use Rattle.surf_surfaces.proofs.meshes.PairLaws.{pair_eq-true, pair_eq-same}
use Rattle.surf_surfaces.proofs.meshes.EdgeLaws.{place_of-ends, list_any_from}
use Rattle.surf_surfaces.proofs.meshes.SurfaceLaws.{two_faces_of}
use Rattle.surf_surfaces.proofs.meshes.CellLaws.{surfaces_are_cells, ends_below}
use Rattle.surf_surfaces.proofs.walks.ShortestTreeLaws.{shortest_is_tree, shortest_is_shortest}
use Rattle.surf_surfaces.proofs.classes.CotreeLaws.{passing_each, passing_found, is_split}
use Rattle.surf_validity.specs.Rows.{LoopCert}
use Rattle.surf_validity.specs.Valid.{distance_at, parent_at, depth_at, side_at, certified_tree, dual_tree, across, IsParent, AddsUp, IsNoShortCut, IsTreeValid, IsDualRow, is_parent_edge, is_dual_edge, is_listed, just_one, IsDivided, loop_size, HasNoShorter, HasShape, IsValidLoops}
use Rattle.surf_validity.specs.Chosen.{parent_in, side_in, chosen_cert}
use Rattle.surf_validity.specs.Laws.{ChosenLoopsAreValid}
use Rattle.surf_validity.proofs.TreeLaws.{rows_in_tree}
use Rattle.surf_validity.proofs.DualLaws.{dual_rows_in_tree}

-- what a table of a function has at a place
pub at : {X : Type 0} (f : ℕ → X) (n i : ℕ) (d : X) → i < n → get_or (map f (range_with_len 0 n)) i d ≡ f i
at f n i d l = get_or-map-range_with_len f 0 n i i d l (omega arith)

pub size : {X : Type 0} (f : ℕ → X) (n : ℕ) → length (map f (range_with_len 0 n)) ≡ n
size f n = length-map (range_with_len 0 n) f ∙ length-range_with_len 0 n

-- the ways through two trees that say the same
ways_same : (nodes : ℕ) (a b : Tree) → a.root ≡ b.root →
    ((n : ℕ) → n < nodes → n ≢ a.root → (a.parent n < nodes) × (a.parent n ≡ b.parent n) × (a.up n ≡ b.up n)) →
    (k n e : ℕ) → n < nodes → on_way a k n e ≡ on_way b k n e
ways_same nodes a b root same zero n e l = refl
ways_same nodes a b root same (suc k) n e l = elim (cases_eq n a.root) [
  | inl is ↦ rw (eq-eqb n a.root is, eq-eqb n b.root (is ∙ root)) refl
  | inr ne ↦
      let it = same n l ne in
      rw (ne_eqb n a.root ne, ne_eqb n b.root (λ z. ne (z ∙ sym root)))
      (ap (λ u. xor (eqb u e) (on_way a k (a.parent n) e)) it.2
      ∙ ap (xor (eqb (b.up n) e)) (ways_same nodes a b root same k (a.parent n) e it.0
      ∙ ap (λ p. on_way b k p e) it.1))
]

module _ (mesh : Mesh) (lengths : List ℕ) (base : ℕ) (trees : Trees) (surface : IsSurface mesh)
    (positive : ArePositive mesh lengths) (chosen : AreChosenAt mesh lengths base trees) where
  abbrev tree : Tree
  tree = trees.tree

  abbrev cotree : Tree
  cotree = trees.cotree

  abbrev cert : LoopCert
  cert = chosen_cert mesh trees

  spans : IsTree (primal (cells_of mesh)) tree
  spans = shortest_is_tree mesh lengths base tree surface positive chosen.shortest

  short : IsShortest (primal (cells_of mesh)) (edge_length lengths) tree
  short = shortest_is_shortest mesh lengths base tree surface positive chosen.shortest

  not_base : (v : ℕ) → v ≢ tree.root → v ≢ base
  not_base v ne same = ne (same ∙ sym chosen.shortest.root)

  distance_is : (v : ℕ) → v < mesh.vertices → distance_at cert.tree v ≡ tree.rank v
  distance_is v l = at tree.rank mesh.vertices v 0 l

  parent_is : (v : ℕ) → v < mesh.vertices → parent_at cert.tree v ≡ parent_in tree v
  parent_is v l = at (parent_in tree) mesh.vertices v None l

  -- ---- the tree of vertices

  tight_edge : (v : ℕ) → v < mesh.vertices → v ≢ tree.root → Contains (edges mesh) (pair (tree.parent v) v)
  tight_edge v l ne = (chosen.shortest.tight v l (not_base v ne)).0

  is_parent : (v : ℕ) → v < mesh.vertices → IsParent mesh tree.root v (parent_at cert.tree v)
  is_parent v l = subst (IsParent mesh tree.root v) (sym (parent_is v l)) (elim (cases_eq v tree.root) [
    | inl same ↦ rw (eq-eqb v tree.root same) same
    | inr ne ↦ rw (ne_eqb v tree.root ne) (ne, tight_edge v l ne)
  ])

  adds_up : (v : ℕ) → v < mesh.vertices → AddsUp mesh lengths cert.tree v (parent_at cert.tree v)
  adds_up v l = subst (AddsUp mesh lengths cert.tree v) (sym (parent_is v l)) (elim (cases_eq v tree.root) [
    | inl same ↦ rw (eq-eqb v tree.root same) (distance_is v l ∙ ap tree.rank same ∙ short.none_at_root)
    | inr ne ↦
        let p = tree.parent v in
        rw (ne_eqb v tree.root ne)
        (distance_is v l ∙ sym (chosen.shortest.tight v l (not_base v ne)).1
        ∙ ap (λ n. n + edge_length lengths (edge_number mesh (p, v))) (sym (distance_is p (spans.parent_in v l ne))))
  ])

  no_short_cut : (e : ℕ) → e < edge_count mesh → IsNoShortCut mesh lengths cert.tree e
  no_short_cut e l =
      let inside = (surfaces_are_cells mesh surface).complex.primal_ends e l in
      let u = distance_is (ends mesh e).0 inside.0 in
      let v = distance_is (ends mesh e).1 inside.1 in
      rw (u, v) (short.no_short_cut e l)

  tree_valid : IsTreeValid mesh lengths cert.tree
  tree_valid = record { parents = is_parent; distances = adds_up; slack = no_short_cut }

  -- ---- the tree of faces

  depth_is : (f : ℕ) → f < face_count mesh → depth_at cert.dual f ≡ cotree.rank f
  depth_is f l = at cotree.rank (face_count mesh) f 0 l

  side_is : (f : ℕ) → f < face_count mesh → side_at cert.dual f ≡ side_in mesh cotree f
  side_is f l = at (side_in mesh cotree) (face_count mesh) f None l

  ordered : (e : ℕ) → e < edge_count mesh → pair_of (ends mesh e) ≡ ends mesh e
  ordered e l = rw (lt-ltb (ends mesh e).0 (ends mesh e).1 (ends_below mesh surface.is_mesh e l).0) refl

  number_is : (e : ℕ) → e < edge_count mesh → edge_number mesh (ends mesh e) ≡ e
  number_is e l = ap (λ p. place_of p (edges mesh)) (ordered e l) ∙ place_of-ends mesh e l

  -- a face and its parent are the two faces of the edge between them
  other_face : (f g a b : ℕ) → ((eqb a f && eqb b g) || (eqb a g && eqb b f)) ≡ true → a ≢ b →
      (cond (eqb f a) b a ≡ g) × ((eqb f a || eqb f b) ≡ true)
  other_face f g a b h ne = elim (or_cases (eqb a f && eqb b g) (eqb a g && eqb b f) h) [
    | inl x ↦
        let both = and_parts (eqb a f) (eqb b g) x in
        let first : a ≡ f = eqb-true a f both.0 in
        rw (eq-eqb f a (sym first)) (eqb-true b g both.1, refl)
    | inr x ↦
        let both = and_parts (eqb a g) (eqb b f) x in
        let second : b ≡ f = eqb-true b f both.1 in
        rw (ne_eqb f a (λ z. ne (sym z ∙ sym second)), eq-eqb f b (sym second)) (eqb-true a g both.0, refl)
  ]

  dual_row : (f : ℕ) → f < face_count mesh → IsDualRow mesh cert.dual f (side_at cert.dual f)
  dual_row f l = subst (IsDualRow mesh cert.dual f) (sym (side_is f l)) (elim (cases_eq f cotree.root) [
    | inl same ↦ rw (eq-eqb f cotree.root same)
        (same ∙ chosen.heaviest.joins_faces.root, depth_is f l ∙ ap cotree.rank (same ∙ chosen.heaviest.joins_faces.root) ∙ chosen.heaviest.joins_faces.root_depth)
    | inr ne ↦
        let joins = chosen.heaviest.joins_faces.spans in
        let e = cotree.up f in
        let e_in = joins.up_in f l ne in
        let g = cotree.parent f in
        let not_zero : f ≢ 0 = λ z. ne (z ∙ sym chosen.heaviest.joins_faces.root) in
        let two = two_faces_of mesh surface e e_in in
        let apart = (surfaces_are_cells mesh surface).faces_differ e e_in in
        let it = other_face f g (faces_of mesh e).0 (faces_of mesh e).1 (joins.up_joins f l ne) apart in
        let here : across mesh f (ends mesh e) ≡ g =
        ap (λ h. cond (eqb f (faces_of mesh h).0) (faces_of mesh h).1 (faces_of mesh h).0) (number_is e e_in) ∙ it.0 in
        let below = chosen.heaviest.joins_faces.depths f l not_zero in
        rw (ne_eqb f cotree.root ne) (
          not_zero,
          ap (λ p. has_side p (face_at mesh f)) (ordered e e_in) ∙ two.no_other f ∙ it.1,
          depth_is f l ∙ below
              ∙ ap (λ n. n + 1) (sym (ap (depth_at cert.dual) here ∙ depth_is g (joins.parent_in f l ne))),
        )
  ])

  -- ---- each edge is in one of three sets

  vertex_up : (v : ℕ) → v < mesh.vertices → v ≢ tree.root →
      ((certified_tree mesh cert.tree).parent v ≡ tree.parent v) × ((certified_tree mesh cert.tree).up v ≡ tree.up v)
  vertex_up v l ne =
      let parent : parent_at cert.tree v ≡ Some (tree.parent v) = parent_is v l ∙ rw (ne_eqb v tree.root ne) refl in
      rw parent (refl, sym (chosen.shortest.up v l (not_base v ne)))

  same_tree : (e : ℕ) → e < edge_count mesh → is_parent_edge mesh cert.tree e ≡ tree_edges mesh tree e
  same_tree e l =
      sym (rows_in_tree mesh lengths cert.tree surface positive spans.root_in tree_valid e l)
      ∙ any_below-same mesh.vertices
      (λ v. not (eqb v tree.root) && eqb (edge_number mesh (unwrap_or (parent_at cert.tree v) 0, v)) e)
      (λ v. not (eqb v tree.root) && eqb (tree.up v) e) each
    where
      each : (v : ℕ) → v < mesh.vertices →
          (not (eqb v tree.root) && eqb (edge_number mesh (unwrap_or (parent_at cert.tree v) 0, v)) e)
          ≡ (not (eqb v tree.root) && eqb (tree.up v) e)
      each v v_in = elim (cases_eq v tree.root) [
        | inl same ↦ rw (eq-eqb v tree.root same) refl
        | inr ne ↦ rw (ne_eqb v tree.root ne, (vertex_up v v_in ne).1) refl
      ]

  dual_up : (f : ℕ) → f < face_count mesh → f ≢ 0 →
      ((dual_tree mesh cert.dual).parent f ≡ cotree.parent f) × ((dual_tree mesh cert.dual).up f ≡ cotree.up f)
  dual_up f l ne =
      let root : f ≢ cotree.root = λ z. ne (z ∙ chosen.heaviest.joins_faces.root) in
      let joins = chosen.heaviest.joins_faces.spans in
      let e = cotree.up f in
      let e_in = joins.up_in f l root in
      let side : side_at cert.dual f ≡ Some (ends mesh e) = side_is f l ∙ rw (ne_eqb f cotree.root root) refl in
      let apart = (surfaces_are_cells mesh surface).faces_differ e e_in in
      let it = other_face f (cotree.parent f) (faces_of mesh e).0 (faces_of mesh e).1 (joins.up_joins f l root) apart in
      rw side (
        ap (λ h. cond (eqb f (faces_of mesh h).0) (faces_of mesh h).1 (faces_of mesh h).0) (number_is e e_in) ∙ it.0,
        number_is e e_in,
      )

  same_cotree : (e : ℕ) → e < edge_count mesh → is_dual_edge mesh cert.dual e ≡ cotree_edges mesh cotree e
  same_cotree e l =
      sym (dual_rows_in_tree mesh cert.dual surface dual_row e l)
      ∙ any_below-same (face_count mesh) (λ f. not (eqb f 0) && eqb ((dual_tree mesh cert.dual).up f) e)
      (λ f. not (eqb f cotree.root) && eqb (cotree.up f) e) each
    where
      each : (f : ℕ) → f < face_count mesh → (not (eqb f 0) && eqb ((dual_tree mesh cert.dual).up f) e)
          ≡ (not (eqb f cotree.root) && eqb (cotree.up f) e)
      each f f_in = elim (cases_eq f 0) [
        | inl same ↦ rw (eq-eqb f 0 same, eq-eqb f cotree.root (same ∙ sym chosen.heaviest.joins_faces.root)) refl
        | inr ne ↦ rw (ne_eqb f 0 ne, ne_eqb f cotree.root (λ z. ne (z ∙ chosen.heaviest.joins_faces.root)), (dual_up f f_in ne).1) refl
      ]

  left_each : AllByRecursion (λ x. (x < 0 + edge_count mesh) × (is_left mesh tree cotree x ≡ true))
      (left_edges mesh tree cotree)
  left_each = passing_each (is_left mesh tree cotree) 0 (edge_count mesh)

  listed_from : (e : ℕ) → e < edge_count mesh → (xs : List ℕ) →
      AllByRecursion (λ x. (x < 0 + edge_count mesh) × (is_left mesh tree cotree x ≡ true)) xs →
      list_any (λ p. pair_eq (ends mesh e) (pair_of p)) (map (ends mesh) xs) ≡ true → is_left mesh tree cotree e ≡ true
  listed_from e l [] h on = absurd (false≢true on)
  listed_from e l (x ∷ xs) h on = elim (cases_Bool (pair_eq (ends mesh e) (pair_of (ends mesh x)))) [
    | inl here ↦
        let x_in : x < edge_count mesh = omega (arith, h.0.0) in
        let same : ends mesh e ≡ ends mesh x =
        pair_eq-true (ends mesh e) (pair_of (ends mesh x)) here ∙ ordered x x_in in
        let is : e ≡ x =
        sym (place_of-ends mesh e l) ∙ ap (λ p. place_of p (edges mesh)) same ∙ place_of-ends mesh x x_in in
        ap (is_left mesh tree cotree) is ∙ h.0.1
    | inr out ↦ listed_from e l xs h.1 (rw out at on)
  ]

  listed_to : (e : ℕ) → e < edge_count mesh → is_left mesh tree cotree e ≡ true → is_listed mesh cert.left e ≡ true
  listed_to e l on =
      let (k, k_in, same) = passing_found (is_left mesh tree cotree) 0 (edge_count mesh) e (omega arith) (omega arith) on in
      let left = left_edges mesh tree cotree in
      let there : get_or (map (ends mesh) left) k (0, 0) ≡ ends mesh e =
      get_or-map (ends mesh) left k 0 (0, 0) k_in ∙ ap (ends mesh) same in
      let long : k < length (map (ends mesh) left) = let n = length-map left (ends mesh) in omega (arith, k_in, n) in
      list_any_from (λ p. pair_eq (ends mesh e) (pair_of p)) (map (ends mesh) left) (0, 0) k long
      (pair_eq-same (ends mesh e) (pair_of (get_or (map (ends mesh) left) k (0, 0)))
      (sym (ap pair_of there ∙ ordered e l)))

  same_left : (e : ℕ) → e < edge_count mesh → is_listed mesh cert.left e ≡ is_left mesh tree cotree e
  same_left e l = elim (cases_Bool (is_left mesh tree cotree e)) [
    | inl on ↦ listed_to e l on ∙ sym on
    | inr off ↦ false_from_ne_true (is_listed mesh cert.left e)
        (λ listed. true≢false (sym (listed_from e l (left_edges mesh tree cotree) left_each listed) ∙ off)) ∙ sym off
  ]

  one_of_three : (a b : Bool) → (b ≡ true → a ≡ false) → just_one a b (not a && not b) ≡ true
  one_of_three true true h = absurd (true≢false (h refl))
  one_of_three true false h = refl
  one_of_three false true h = refl
  one_of_three false false h = refl

  divided : IsDivided mesh cert.tree cert.dual cert.left
  divided = record {
    are_edges = λ k d k_in.
        let left = left_edges mesh tree cotree in
        let long : k < length left = let n = length-map left (ends mesh) in omega (arith, k_in, n) in
        let is : get_or (map (ends mesh) left) k d ≡ ends mesh (get_or left k 0) = get_or-map (ends mesh) left k 0 d long in
        let e_in : get_or left k 0 < edge_count mesh = below left left_each k long in
        subst (λ p. Contains (edges mesh) (pair_of p)) (sym is)
        (subst (Contains (edges mesh)) (sym (ordered (get_or left k 0) e_in))
        (Contains-get_or (edges mesh) (get_or left k 0) (0, 0) e_in));
    divided = λ e l.
        rw (same_tree e l, same_cotree e l, same_left e l)
        (one_of_three (tree_edges mesh tree e) (cotree_edges mesh cotree e) (chosen.heaviest.outside e l));
  }
    where
      below : (xs : List ℕ) → AllByRecursion (λ x. (x < 0 + edge_count mesh) × (is_left mesh tree cotree x ≡ true)) xs →
          (k : ℕ) → k < length xs → get_or xs k 0 < edge_count mesh
      below [] h k l = absurd (omega arith)
      below (x ∷ xs) h zero l = omega (arith, h.0.0)
      below (x ∷ xs) h (suc k) l = below xs h.1 k (omega arith)

  -- ---- loops

  path_is : (f e : ℕ) → f < face_count mesh → on_path (dual_tree mesh cert.dual) f e ≡ on_path cotree f e
  path_is f e l =
      ways_same (face_count mesh) (dual_tree mesh cert.dual) cotree (sym chosen.heaviest.joins_faces.root)
      (λ n n_in ne.
      let it = dual_up n n_in ne in
      let root : n ≢ cotree.root = λ z. ne (z ∙ chosen.heaviest.joins_faces.root) in
      (subst (λ p. p < face_count mesh) (sym it.0) (chosen.heaviest.joins_faces.spans.parent_in n n_in root), it.0, it.1))
      (depth_at cert.dual f) f e l
      ∙ ap (λ k. on_way cotree k f e) (depth_is f l)

  way_is : (v e : ℕ) → v < mesh.vertices → on_path (certified_tree mesh cert.tree) v e ≡ on_path tree v e
  way_is v e l =
      ways_same mesh.vertices (certified_tree mesh cert.tree) tree refl
      (λ n n_in ne.
      let it = vertex_up n n_in ne in
      (subst (λ p. p < mesh.vertices) (sym it.0) (spans.parent_in n n_in ne), it.0, it.1))
      (distance_at cert.tree v) v e l
      ∙ ap (λ k. on_way tree k v e) (distance_is v l)

  -- the loops through the tree that the rows say are those through the tree
  pub loop_is : (e h : ℕ) → e < edge_count mesh →
      loop (primal (cells_of mesh)) (certified_tree mesh (chosen_cert mesh trees).tree) e h
      ≡ loop (primal (cells_of mesh)) trees.tree e h
  loop_is e h l =
      let inside = (surfaces_are_cells mesh surface).complex.primal_ends e l in
      let u = (ends mesh e).0 in
      let v = (ends mesh e).1 in
      ap (λ b. xor (eqb e h) (xor b (on_path (certified_tree mesh cert.tree) v h))) (way_is u h inside.0)
      ∙ ap (λ b. xor (eqb e h) (xor (on_path tree u h) b)) (way_is v h inside.1)

  pub size_is : (e : ℕ) → e < edge_count mesh →
      loop_size mesh lengths (chosen_cert mesh trees).tree e
      ≡ graph_loop_length (primal (cells_of mesh)) (edge_length lengths) trees.tree e
  size_is e l =
      let inside = (surfaces_are_cells mesh surface).complex.primal_ends e l in
      rw (distance_is (ends mesh e).0 inside.0, distance_is (ends mesh e).1 inside.1) refl

  precedes_below : (weight : ℕ → ℕ) (a b : ℕ) → precedes weight a b ≡ true → weight a ≤ weight b
  precedes_below weight a b h = grind (arith, nat_tests)

  no_shorter : (l : ℕ) → l < edge_count mesh → HasNoShorter mesh lengths cert l
  no_shorter l l_in listed c c_in on =
      let faces = (surfaces_are_cells mesh surface).complex.dual_ends l l_in in
      let near = (faces_of mesh l).0 in
      let far = (faces_of mesh l).1 in
      let there : between cotree near far c ≡ true =
      ap (λ b. xor b (on_path cotree far c)) (sym (path_is near c faces.0))
      ∙ ap (xor (on_path (dual_tree mesh cert.dual) near c)) (sym (path_is far c faces.1)) ∙ on in
      let bound = precedes_below (graph_loop_length (primal (cells_of mesh)) (edge_length lengths) tree) l c
      (chosen.heaviest.heaviest l c l_in (sym (same_left l l_in) ∙ listed) there) in
      let one = size_is l l_in in
      let other = size_is c c_in in
      omega (arith, bound, one, other)

  shape : HasShape mesh cert
  shape = record {
    vertices = record { distances = size tree.rank mesh.vertices; parents = size (parent_in tree) mesh.vertices };
    faces = record { depths = size cotree.rank (face_count mesh); sides = size (side_in mesh cotree) (face_count mesh) };
    loops =
        let n = length-map (left_edges mesh tree cotree) (ends mesh) in
        let count = left_count (cells_of mesh) (split_of mesh tree cotree)
        (is_split mesh lengths tree cotree chosen.heaviest spans) in
        omega (arith, n, count);
    base = spans.root_in;
  }

  pub valid_at : IsValidLoops mesh lengths (chosen_cert mesh trees)
  valid_at = record {
    shape = shape;
    tree = tree_valid;
    dual = dual_row;
    divided = divided;
    heaviest = no_shorter;
  }

pub chosen_loops_are_valid : ChosenLoopsAreValid
chosen_loops_are_valid mesh lengths base trees surface positive chosen =
    valid_at mesh lengths base trees surface positive chosen
