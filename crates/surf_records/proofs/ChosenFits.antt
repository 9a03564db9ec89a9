-- The certificates of the choice fit the lines of a text.
use Rattle.surf_surfaces.proofs.Common.{◌≡◌, ℕ, ◌<◌, ◌^◌, List, [], ◌∷◌, length, get_or, map, refl, sym, ap, ◌∙◌, subst, arith, inl, inr, cases_eq, ne_eqb, eq-eqb, length-map, get_or-map, length-range_with_len, get_or-map-range_with_len, primal, dual, IsSplit, Tree, IsTree, IsShortest, left_edges as left_count, Mesh, face_count, edge_count, ends, IsSurface, IsClosed, edge_length, ArePositive, IsLoopCount, cells_of, Trees, Loop, AreChosenAt, AreChosen, IsChosenBasis, walks}
use Rattle.std.specs.List.{All, zip, range_with_len}
use Rattle.surf_surfaces.specs.Cotree.{left_edges, split_of}
use Rattle.surf_surfaces.proofs.bases.BasisLaws.{basis_is_least}
use Rattle.surf_surfaces.proofs.meshes.CellLaws.{ends_below}
use Rattle.surf_surfaces.proofs.classes.ClassLaws.{some_vertex}
use Rattle.surf_surfaces.proofs.classes.CotreeLaws.{is_split}
use Rattle.surf_surfaces.proofs.LawProofs.{edges_are_in_order}
use Rattle.surf_surfaces.proofs.walks.ShortestTreeLaws.{shortest_is_tree, shortest_is_shortest}
use Rattle.surf_validity.specs.Rows.{TreeRows}
use Rattle.surf_validity.specs.Chosen.{parent_in, side_in, rows_for, dual_rows_of, chosen_cert, basis_cert_of}
use Rattle.surf_validity.proofs.RankLaws.{ranks_fit}
use Rattle.surf_records.specs.Fits.{greatest, IsNumber, IsParent, TreeFits, IsPair, IsFaceRow, DualFits, LeftFits, CycleFits, LoopFits, BasisFits}

-- the counts of a mesh and the lengths of its edges are numbers of a text
pub record AreNumbers (mesh : Mesh) (lengths : List ℕ) : Type 0 where
  pub vertices : IsNumber mesh.vertices
  pub faces : IsNumber (face_count mesh)
  pub edges : IsNumber (edge_count mesh)
  pub sizes : (e : ℕ) → e < edge_count mesh → IsNumber (edge_length lengths e)

-- ---- tables

size : {X : Type 0} (f : ℕ → X) (n : ℕ) → length (map f (range_with_len 0 n)) ≡ n
size f n = length-map (range_with_len 0 n) f ∙ length-range_with_len 0 n

-- what holds of each value holds of all members of their table
table_all : {X : Type 0} (P : X → Type 0) (f : ℕ → X) (n : ℕ) → ((k : ℕ) → k < n → P (f k)) →
    All P (map f (range_with_len 0 n))
table_all P f n each k d l =
    let long = size f n in
    let k_in : k < n = omega (arith, l, long) in
    subst P (sym (get_or-map-range_with_len f 0 n k k d k_in (omega arith))) (each k k_in)

zip_tables : {X Y : Type 0} (f : ℕ → X) (g : ℕ → Y) (ks : List ℕ) → zip (map f ks) (map g ks) ≡ map (λ k. (f k, g k)) ks
zip_tables f g [] = refl
zip_tables f g (k ∷ ks) = rw (zip_tables f g ks) refl

module _ (mesh : Mesh) (lengths : List ℕ) (surface : IsSurface mesh) (positive : ArePositive mesh lengths)
    (numbers : AreNumbers mesh lengths) where
  -- the ends of an edge are two numbers, the lesser first
  ends_fit : (e : ℕ) → e < edge_count mesh → IsPair (ends mesh e)
  ends_fit e l =
      let below = ends_below mesh surface.is_mesh e l in
      let most = numbers.vertices in
      record { ordered = below.0; number = omega (arith, below.1, most) }

  module _ (base : ℕ) (trees : Trees) (chosen : AreChosenAt mesh lengths base trees) where
    abbrev tree : Tree
    tree = trees.tree

    abbrev cotree : Tree
    cotree = trees.cotree

    spans : IsTree (primal (cells_of mesh)) tree
    spans = shortest_is_tree mesh lengths base tree surface positive chosen.shortest

    short : IsShortest (primal (cells_of mesh)) (edge_length lengths) tree
    short = shortest_is_shortest mesh lengths base tree surface positive chosen.shortest

    split : IsSplit (cells_of mesh) (split_of mesh tree cotree)
    split = is_split mesh lengths tree cotree chosen.heaviest spans

    -- ---- the tree of vertices

    distance_fits : (v : ℕ) → v < mesh.vertices → tree.rank v < 2 ^ 64
    distance_fits v l =
        let bound = ranks_fit (primal (cells_of mesh)) tree greatest spans short.none_at_root
        (λ n n_in ne.
        let sum = short.adds_up n n_in ne in
        let few = numbers.sizes (tree.up n) (spans.up_in n n_in ne) in
        omega (arith, sum, few)) v l in
        let most = numbers.vertices in
        omega (arith, bound, most)

    parent_fits : (v : ℕ) → v < mesh.vertices → IsParent (parent_in tree v)
    parent_fits v l = elim (cases_eq v tree.root) [
      | inl same ↦ rw (eq-eqb v tree.root same) tt
      | inr ne ↦
          let inside = spans.parent_in v l ne in
          let most = numbers.vertices in
          rw (ne_eqb v tree.root ne) (omega (arith, inside, most))
    ]

    tree_fits : TreeFits mesh.vertices (rows_for mesh tree)
    tree_fits = record {
      base = let inside = spans.root_in in let most = numbers.vertices in omega (arith, inside, most);
      distances = size tree.rank mesh.vertices;
      parents = size (parent_in tree) mesh.vertices;
      whole = table_all (λ d. d < 2 ^ 64) tree.rank mesh.vertices distance_fits;
      numbers = table_all IsParent (parent_in tree) mesh.vertices parent_fits;
    }

    -- ---- the tree of faces

    depth_few : (f : ℕ) → f < face_count mesh → cotree.rank f < face_count mesh
    depth_few f l =
        let none : cotree.rank cotree.root ≡ 0 = ap cotree.rank chosen.heaviest.joins_faces.root ∙ chosen.heaviest.joins_faces.root_depth in
        let bound = ranks_fit (dual (cells_of mesh)) cotree 1 chosen.heaviest.joins_faces.spans none
        (λ n n_in ne.
        let deeper = chosen.heaviest.joins_faces.depths n n_in (λ z. ne (z ∙ sym chosen.heaviest.joins_faces.root)) in
        omega (arith, deeper)) f l in
        omega (arith, bound)

    row_fits : (f : ℕ) → f < face_count mesh → IsFaceRow (cotree.rank f, side_in mesh cotree f)
    row_fits f l = elim (cases_eq f cotree.root) [
      | inl same ↦ rw (eq-eqb f cotree.root same)
          (ap cotree.rank (same ∙ chosen.heaviest.joins_faces.root) ∙ chosen.heaviest.joins_faces.root_depth)
      | inr ne ↦
          let deeper = chosen.heaviest.joins_faces.depths f l (λ z. ne (z ∙ sym chosen.heaviest.joins_faces.root)) in
          let few = depth_few f l in
          let most = numbers.faces in
          rw (ne_eqb f cotree.root ne) (
            omega (arith, deeper),
            omega (arith, few, most),
            ends_fit (cotree.up f) (chosen.heaviest.joins_faces.spans.up_in f l ne),
          )
    ]

    dual_fits : DualFits (face_count mesh) (dual_rows_of mesh cotree)
    dual_fits = record {
      depths = size cotree.rank (face_count mesh);
      sides = size (side_in mesh cotree) (face_count mesh);
      rows = rw (zip_tables cotree.rank (side_in mesh cotree) (range_with_len 0 (face_count mesh)))
          (table_all IsFaceRow (λ f. (cotree.rank f, side_in mesh cotree f)) (face_count mesh) row_fits);
    }

    -- ---- the left edges

    abbrev left : List ℕ
    left = left_edges mesh tree cotree

    left_long : length (map (ends mesh) left) ≡ length left
    left_long = length-map left (ends mesh)

    left_full : IsLoopCount mesh (length (map (ends mesh) left))
    left_full =
        let long = left_long in
        let count = left_count (cells_of mesh) (split_of mesh tree cotree) split in
        omega (arith, long, count)

    left_at : (k : ℕ) (d : ℕ × ℕ) → k < length (map (ends mesh) left) →
        get_or (map (ends mesh) left) k d ≡ ends mesh (get_or left k 0)
    left_at k d l = let long = left_long in get_or-map (ends mesh) left k 0 d (omega (arith, l, long))

    left_fits : LeftFits (length (map (ends mesh) left)) (map (ends mesh) left)
    left_fits =
        let long = left_long in
        record {
          count = refl;
          pairs = λ k d l. subst IsPair (sym (left_at k d l))
              (ends_fit (get_or left k 0) (split.left_in k (omega (arith, l, long))));
          rises = λ i j d lt l.
              let i_in : i < length (map (ends mesh) left) = omega (arith, lt, l) in
              let order = split.left_rises i j lt (omega (arith, l, long)) in
              rw (left_at i d i_in, left_at j d l)
              (edges_are_in_order mesh (get_or left i 0) (get_or left j 0) (0, 0) order
              (split.left_in j (omega (arith, l, long))));
        }

    left_few : IsNumber (length (map (ends mesh) left))
    left_few =
        let full = left_full in
        let most = numbers.edges in
        let some = surface.some_face in
        let vertex = some_vertex mesh surface in
        omega (arith, full, most, some, vertex)

    pub chosen_loops_fit : LoopFits (chosen_cert mesh trees)
    chosen_loops_fit =
        let long = size tree.rank mesh.vertices in
        let deep = size cotree.rank (face_count mesh) in
        record {
          vertices = rw long numbers.vertices;
          faces = rw deep numbers.faces;
          count = left_few;
          tree = rw long tree_fits;
          dual = rw deep dual_fits;
          left = left_fits;
        }

  module _ (trees : ℕ → Trees) (basis : List Loop) (chosen : AreChosen mesh lengths trees)
      (is_basis : IsChosenBasis mesh lengths trees basis) where
    abbrev rows : List TreeRows
    rows = (basis_cert_of mesh trees basis).trees

    abbrev rows_at : ℕ → TreeRows
    rows_at x = rows_for mesh (trees x).tree

    all_long : length rows ≡ mesh.vertices
    all_long = size rows_at mesh.vertices

    base_is : (x : ℕ) (d : TreeRows) → x < length rows → (get_or rows x d).base ≡ x
    base_is x d l =
        let long = all_long in
        let x_in : x < mesh.vertices = omega (arith, l, long) in
        ap (λ (t : TreeRows). t.base) (get_or-map-range_with_len rows_at 0 mesh.vertices x x d x_in (omega arith))
        ∙ (chosen x x_in).shortest.root

    cycle_fits : (cycle : List ℕ) → IsClosed mesh cycle → CycleFits cycle
    cycle_fits cycle is = record {
      some = is.is_walk.begins;
      numbers = λ k d l.
          let inside = is.is_walk.vertices k d l in
          let most = numbers.vertices in
          omega (arith, inside, most);
    }

    pub chosen_basis_fits : BasisFits (basis_cert_of mesh trees basis)
    chosen_basis_fits =
        let first = chosen 0 (some_vertex mesh surface) in
        let is = (basis_is_least mesh lengths trees basis surface positive chosen is_basis).least.is_basis in
        let long = all_long in
        let deep = size (trees 0).cotree.rank (face_count mesh) in
        let cycles = is.count in
        let edges = left_full 0 (trees 0) first in
        record {
          vertices = rw long numbers.vertices;
          faces = rw deep numbers.faces;
          count = left_few 0 (trees 0) first;
          trees = subst (λ (v : ℕ). All (TreeFits v) rows) (sym long)
              (table_all (TreeFits mesh.vertices) rows_at mesh.vertices (λ x l. tree_fits x (trees x) (chosen x l)));
          bases = base_is;
          dual = rw deep (dual_fits 0 (trees 0) first);
          left = left_fits 0 (trees 0) first;
          as_many = omega (arith, cycles, edges);
          cycles = λ k d l. cycle_fits (get_or (walks basis) k d) (is.closed k d l);
        }
