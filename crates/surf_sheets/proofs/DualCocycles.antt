-- A least basis has cocycles that tell which of its walks take part, and the shortest ways from each vertex are sheets.
use Rattle.surf_surfaces.proofs.Common.{◌≡◌, ℕ, ◌<◌, Bool, eqb, leb, leb-true, List, [], length, get_or, get_or-map, map, filter, refl, sym, ap, ◌∙◌, subst, arith, inl, All-from_recursion, recursion_from_All, length-map, range_with_len, get_or-range_with_len, length-range_with_len, xor, xor_comm, numbers, is_nothing, Decides-is_nothing, InSpan, Free, free_from_independent, in_from_spanned, Chain, Split, IsSplit, IsEven, signature_of, signature_of-same, signature_of-linear, null_zero, Tree, loop, on_path, primal, dual, graph_touches, cells_of, Mesh, edge_count, ends, IsSurface, IsClosed, parity, class_of, walk_length, loop_walk, ArePositive, AreShortestTrees}
use Rattle.surf_z2.proofs.Linear.{sum_over, sum_over-at, linear-sum_over}
use Rattle.surf_z2.proofs.ParityLaws.{odd_below-xor-and, odd_below-at}
use Rattle.surf_z2.proofs.Ranks.{in_whole}
use Rattle.surf_z2.specs.Space.{chains}
use Rattle.surf_graphs.proofs.CellLaws.{boundary_even}
use Rattle.surf_graphs.proofs.Trees.{sum_of_loops}
use Rattle.surf_surfaces.specs.Homology.{IsLeastBasis}
use Rattle.surf_surfaces.proofs.bases.ChoiceExists.{choice_exists}
use Rattle.surf_surfaces.proofs.bases.CoveredLaws.{contains-map}
use Rattle.surf_surfaces.proofs.bases.FewBasesLaws.{loop_class}
use Rattle.surf_surfaces.proofs.bases.FirstCycleLaws.{shortest_trees}
use Rattle.surf_surfaces.proofs.bases.FirstFoundLaws.{loop_closed}
use Rattle.surf_surfaces.proofs.bases.GreedyChoiceLaws.{spanned_from_depends}
use Rattle.surf_surfaces.proofs.classes.ClassLaws.{some_split, some_vertex, runs_loop, independent_by_classes}
use Rattle.surf_surfaces.proofs.classes.LeastLaws.{all_mapped}
use Rattle.surf_surfaces.proofs.classes.ShortSumLaws.{bases_are_least_by_short_sums}
use Rattle.surf_surfaces.proofs.meshes.CellLaws.{surfaces_are_cells}
use Rattle.surf_surfaces.proofs.walks.GraphWalkLaws.{closed_parity_even}
use Rattle.surf_sheets.specs.Sheets.{IsCocycle, is_odd_on, ArePaired, AreByLength, Sheet, is_crossed, IsSheet, IsServed, AreShown}
use Rattle.surf_sheets.specs.Laws.{LeastBasesAreShown}
use Rattle.surf_sheets.proofs.Coordinates.{takes_part, takes_none, takes_over, takes_own, takes_no_later, takes_passing}
use Rattle.surf_sheets.proofs.Oddness.{odd_in, odd_same, odd_parity, sides_odd}

pub range_at : (n k d : ℕ) → k < n → get_or (range_with_len 0 n) k d ≡ k
range_at n k d l = let is = get_or-range_with_len 0 n k d l in omega (arith, is)

module _ (mesh : Mesh) (lengths : List ℕ) (walks : List (List ℕ)) (surface : IsSurface mesh)
    (positive : ArePositive mesh lengths) (least : IsLeastBasis mesh lengths walks) (trees : ℕ → Tree)
    (shortest : AreShortestTrees mesh lengths trees) (d : Split) (split : IsSplit (cells_of mesh) d) where
  -- the classes of the walks
  abbrev xs : List ℕ
  xs = map (class_of mesh d) walks

  -- whether a walk takes part in a sum of them
  abbrev pub part : ℕ → ℕ → Bool
  part i y = takes_part numbers is_nothing Decides-is_nothing (map (class_of mesh d) walks) i y

  -- the class of the loop of an edge at vertex 0
  abbrev at : ℕ → ℕ
  at e = signature_of (cells_of mesh) d (loop (primal (cells_of mesh)) (trees 0) e)

  -- the cocycle of a walk: the edges in whose loops at vertex 0 it takes part
  abbrev pub cocycle : ℕ → Chain
  cocycle i e = part i (at e)

  free : Free numbers (map (class_of mesh d) walks)
  free = free_from_independent numbers (map (class_of mesh d) walks)
      ((independent_by_classes mesh d surface split walks least.is_basis.closed).0 least.is_basis.independent)

  -- a closed walk is a sum of walks that are no longer
  within : (w : List ℕ) → IsClosed mesh w →
      InSpan numbers
      (map (class_of mesh d) (filter (λ v. leb (walk_length mesh lengths v) (walk_length mesh lengths w)) walks))
      (class_of mesh d w)
  within w closed =
      in_from_spanned numbers
      (map (class_of mesh d) (filter (λ v. leb (walk_length mesh lengths v) (walk_length mesh lengths w)) walks))
      (class_of mesh d w)
      (spanned_from_depends mesh d surface split
      (filter (λ v. leb (walk_length mesh lengths v) (walk_length mesh lengths w)) walks) w
      ((bases_are_least_by_short_sums mesh lengths walks surface positive least.is_basis).0 least w closed))

  at_in : (e : ℕ) → e < edge_count mesh →
      InSpan numbers (map (class_of mesh d) walks)
      (signature_of (cells_of mesh) d (loop (primal (cells_of mesh)) (trees 0) e))
  at_in e e_in =
      let w = loop_walk mesh (trees 0) e in
      subst (InSpan numbers (map (class_of mesh d) walks))
      (loop_class mesh lengths trees surface positive shortest d split 0 e (some_vertex mesh surface) e_in)
      (in_whole numbers (class_of mesh d) (λ v. leb (walk_length mesh lengths v) (walk_length mesh lengths w)) walks
      (class_of mesh d w)
      (within w (loop_closed mesh lengths trees surface shortest 0 e (some_vertex mesh surface) e_in)))

  -- an even chain is odd on the cocycle of a walk where this takes part in it
  odd_where_part : (i : ℕ) (x : Chain) → IsEven (primal (cells_of mesh)) x →
      odd_in (edge_count mesh) (cocycle i) x ≡ part i (signature_of (cells_of mesh) d x)
  odd_where_part i x even =
      let s = cells_of mesh in
      let g = primal s in
      let cells = (surfaces_are_cells mesh surface).complex in
      let sums : signature_of s d x ≡ sum_over numbers s.edges x (λ l. signature_of s d (loop g (trees 0) l)) =
      signature_of-same s d x (sum_over chains s.edges x (loop g (trees 0)))
      (λ e l. sym (sum_over-at s.edges x (loop g (trees 0)) e ∙ sum_of_loops g (trees 0) cells.primal_ends x even e l))
      ∙ linear-sum_over chains numbers (signature_of s d) (signature_of-linear s d) s.edges x (loop g (trees 0)) in
      sym (ap (part i) sums
      ∙ takes_over numbers is_nothing Decides-is_nothing (map (class_of mesh d) walks) i s.edges x
      (λ l. signature_of s d (loop g (trees 0) l)) (λ e l. at_in e l))

  is_cocycle : (i : ℕ) → IsCocycle mesh (cocycle i)
  is_cocycle i f f_in =
      let s = cells_of mesh in
      let round : Chain = graph_touches (dual s) f in
      let cells = (surfaces_are_cells mesh surface).complex in
      sides_odd mesh surface (cocycle i) f f_in
      ∙ odd_where_part i round (boundary_even s cells (λ m. eqb m f))
      ∙ ap (part i) (null_zero s d cells split round ((λ m. eqb m f), (λ e l. refl)))
      ∙ takes_none numbers is_nothing Decides-is_nothing (map (class_of mesh d) walks) i

  odd_walk : (i : ℕ) (w : List ℕ) → IsClosed mesh w → is_odd_on mesh (cocycle i) w ≡ part i (class_of mesh d w)
  odd_walk i w closed =
      odd_parity mesh surface (cocycle i) w closed
      ∙ odd_where_part i (parity mesh w) (closed_parity_even mesh surface w closed)

  are_paired : ArePaired mesh walks cocycle
  are_paired = record {
    own = λ i l.
        let n = length-map walks (class_of mesh d) in
        odd_walk i (get_or walks i []) (least.is_basis.closed i [] l)
        ∙ ap (part i) (sym (get_or-map (class_of mesh d) walks i [] (class_of mesh d []) l))
        ∙ takes_own numbers is_nothing Decides-is_nothing (map (class_of mesh d) walks) i (class_of mesh d []) free
        (omega (arith, l, n));
    later = λ i j lt l.
        let n = length-map walks (class_of mesh d) in
        odd_walk j (get_or walks i []) (least.is_basis.closed i [] (omega (arith, lt, l)))
        ∙ ap (part j) (sym (get_or-map (class_of mesh d) walks i [] (class_of mesh d []) (omega (arith, lt, l))))
        ∙ takes_no_later numbers is_nothing Decides-is_nothing (map (class_of mesh d) walks) i j (class_of mesh d []) free lt
        (omega (arith, l, n));
  }

  -- the shortest ways from a vertex, with labels by the cocycles on them
  abbrev pub sheet_at : ℕ → Sheet
  sheet_at x = record {
    from = 0;
    to = length walks;
    margin = 0;
    distance = (trees x).rank;
    label = λ i v. odd_in (edge_count mesh) (cocycle i) (on_path (trees x) v);
  }

  -- an edge is crossed where the walk takes part in its loop
  pub crossed_where_part : (x i e : ℕ) → x < mesh.vertices → e < edge_count mesh →
      is_crossed mesh (cocycle i) (λ v. odd_in (edge_count mesh) (cocycle i) (on_path (trees x) v)) e
      ≡ part i (class_of mesh d (loop_walk mesh (trees x) e))
  crossed_where_part x i e x_in e_in =
      let s = cells_of mesh in
      let g = primal s in
      let E = edge_count mesh in
      let c = cocycle i in
      let one = on_path (trees x) (ends mesh e).0 in
      let two = on_path (trees x) (ends mesh e).1 in
      let closed = loop_closed mesh lengths trees surface shortest x e x_in e_in in
      let run = runs_loop mesh lengths surface (trees x) (shortest.is_tree x x_in) (shortest.shortest x x_in) e e_in in
      xor_comm (xor (odd_in E c one) (odd_in E c two)) (c e)
      ∙ ap (xor (c e)) (sym (odd_below-xor-and E one two c))
      ∙ ap (λ b. xor b (odd_in E c (λ h. xor (one h) (two h)))) (sym (odd_below-at E e c e_in))
      ∙ sym (odd_below-xor-and E (λ h. eqb e h) (λ h. xor (one h) (two h)) c)
      ∙ odd_same E c (loop g (trees x) e) (parity mesh (loop_walk mesh (trees x) e)) (λ h l. sym (run.parities h l))
      ∙ odd_where_part i (parity mesh (loop_walk mesh (trees x) e))
      (closed_parity_even mesh surface (loop_walk mesh (trees x) e) closed)

  is_sheet : (x : ℕ) → x < mesh.vertices → IsSheet mesh lengths walks cocycle (sheet_at x)
  is_sheet x x_in = record {
    slack = λ e e_in. let both = (shortest.shortest x x_in).no_short_cut e e_in in (both.1, both.0);
    long = λ i e in_range i_in e_in crossed.
        let w = loop_walk mesh (trees x) e in
        let run = runs_loop mesh lengths surface (trees x) (shortest.is_tree x x_in) (shortest.shortest x x_in) e e_in in
        let size = run.size in
        let fits = takes_passing numbers is_nothing Decides-is_nothing (class_of mesh d)
        (λ v. leb (walk_length mesh lengths v) (walk_length mesh lengths w)) walks i [] (class_of mesh d w) free i_in
        (within w run.closed.is_closed) (sym (crossed_where_part x i e x_in e_in) ∙ crossed) in
        let short = leb-true (walk_length mesh lengths (get_or walks i [])) (walk_length mesh lengths w) fits in
        omega (arith, short, size);
  }

  sheets : List Sheet
  sheets = map sheet_at (range_with_len 0 mesh.vertices)

  serves_at : (i x : ℕ) → i < length walks → x < mesh.vertices → IsServed (map sheet_at (range_with_len 0 mesh.vertices)) i x
  serves_at i x i_in x_in =
      let n = length-range_with_len 0 mesh.vertices in
      let none : (trees x).rank x ≡ 0 =
      ap (trees x).rank (sym (shortest.root x x_in)) ∙ (shortest.shortest x x_in).none_at_root in (
        sheet_at x,
        contains-map sheet_at (range_with_len 0 mesh.vertices) x
            (x, omega (arith, n, x_in), range_at mesh.vertices x x x_in),
        record { in_range = (omega arith, i_in); near = omega (arith, none) },
      )

  pub shown_by_vertices : AreByLength mesh lengths walks →
      AreShown mesh lengths walks cocycle (map sheet_at (range_with_len 0 mesh.vertices))
  shown_by_vertices by_length = record {
    closed = least.is_basis.closed;
    count = least.is_basis.count;
    by_length = by_length;
    are_cocycles = λ i l. is_cocycle i;
    paired = are_paired;
    are_sheets = All-from_recursion (IsSheet mesh lengths walks cocycle) (map sheet_at (range_with_len 0 mesh.vertices))
        (all_mapped (IsSheet mesh lengths walks cocycle) sheet_at (range_with_len 0 mesh.vertices)
        (recursion_from_All (λ x. IsSheet mesh lengths walks cocycle (sheet_at x)) (range_with_len 0 mesh.vertices)
        (λ k n l.
        let m = length-range_with_len 0 mesh.vertices in
        let k_in : k < mesh.vertices = omega (arith, l, m) in
        subst (λ x. IsSheet mesh lengths walks cocycle (sheet_at x)) (sym (range_at mesh.vertices k n k_in))
        (is_sheet k k_in))));
    served = λ i e i_in e_in odd_on.
        inl (serves_at i (ends mesh e).0 i_in ((surfaces_are_cells mesh surface).complex.primal_ends e e_in).0);
  }

pub least_bases_are_shown : LeastBasesAreShown
least_bases_are_shown mesh lengths walks surface positive least by_length =
    let (d, split) = some_split mesh surface in
    let (trees, chosen) = choice_exists mesh lengths surface positive in
    let shortest = shortest_trees mesh lengths surface positive trees chosen in (
      cocycle mesh lengths walks surface positive least (λ x. (trees x).tree) shortest d split,
      map (sheet_at mesh lengths walks surface positive least (λ x. (trees x).tree) shortest d split)
          (range_with_len 0 mesh.vertices),
      shown_by_vertices mesh lengths walks surface positive least (λ x. (trees x).tree) shortest d split by_length,
    )
