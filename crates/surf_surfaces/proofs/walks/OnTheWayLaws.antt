-- Which vertices are on shortest walks, and the table of the least of them.
use Rattle.std.proofs.Common.{◌≡◌, ◌≢◌, ℕ, zero, suc, ◌+◌, ◌<◌, ◌≤◌, true, List, sym, ap, ◌∙◌, subst, arith, inl, inr, eqb-true, eq-eqb, Contains}
use Rattle.surf_surfaces.proofs.Common.{cases_eq, primal, Tree, joins, joins_turned, Mesh, pair, edges, edge_count, ends, IsSurface, edge_length, edge_number, ArePositive, cells_of, AreShortestTrees, step_short, IsTight}
use Rattle.surf_z2.proofs.ParityLaws.{least_below-found, least_below-least}
use Rattle.surf_graphs.proofs.Through.{none_here, triangle}
use Rattle.surf_surfaces.specs.FewBases.{is_on_way, least_on_way, IsLeastTable, LeastTablesAreLeast}
use Rattle.surf_surfaces.proofs.meshes.CellLaws.{surfaces_are_cells, joins_from}
use Rattle.surf_surfaces.proofs.meshes.EdgeLaws.{place_of-among, among-contains, contains_from_among}
use Rattle.surf_surfaces.proofs.walks.GraphWalkLaws.{from_joined}

module _ (mesh : Mesh) (lengths : List ℕ) (trees : ℕ → Tree) (surface : IsSurface mesh)
    (positive : ArePositive mesh lengths) (shortest : AreShortestTrees mesh lengths trees) where
  -- the distance from a vertex to another
  abbrev distance : ℕ → ℕ → ℕ
  distance x y = (trees x).rank y

  pub zero_distance : (x : ℕ) → x < mesh.vertices → distance x x ≡ 0
  zero_distance x x_in =
      let cells = surfaces_are_cells mesh surface in
      none_here (primal (cells_of mesh)) (edge_length lengths) cells.complex.primal_ends cells.one_edge
      trees shortest.root shortest.is_tree shortest.shortest x x_in

  pub by_way : (x y z : ℕ) → x < mesh.vertices → y < mesh.vertices → z < mesh.vertices →
      distance x z ≤ distance x y + distance y z
  by_way x y z x_in y_in z_in =
      let cells = surfaces_are_cells mesh surface in
      triangle (primal (cells_of mesh)) (edge_length lengths) cells.complex.primal_ends cells.one_edge
      trees shortest.root shortest.is_tree shortest.shortest x y z x_in y_in z_in

  over_edge : (p w : ℕ) → Contains (edges mesh) (pair p w) →
      (edge_number mesh (p, w) < edge_count mesh)
      × (joins (primal (cells_of mesh)) p w (edge_number mesh (p, w)) ≡ true)
  over_edge p w has =
      let at = place_of-among (pair p w) (edges mesh) (0, 0) (among-contains (pair p w) (edges mesh) has) in
      (at.0, joins_from (ends mesh (edge_number mesh (p, w))) p w at.1)

  -- an edge is no short cut
  by_edge : (x p w : ℕ) → x < mesh.vertices → Contains (edges mesh) (pair p w) →
      distance x w ≤ distance x p + edge_length lengths (edge_number mesh (p, w))
  by_edge x p w x_in has =
      let over = over_edge p w has in
      (step_short (primal (cells_of mesh)) (edge_length lengths) (trees x)
      (shortest.shortest x x_in) p w (edge_number mesh (p, w)) over.0
      over.1).1

  -- the parent of a vertex is tight
  parent_tight : (y w : ℕ) → y < mesh.vertices → w < mesh.vertices → w ≢ y →
      ((trees y).parent w < mesh.vertices) × IsTight mesh lengths (trees y).rank ((trees y).parent w) w
  parent_tight y w y_in w_in ne =
      let g = primal (cells_of mesh) in
      let t = trees y in
      let p = t.parent w in
      let tree = shortest.is_tree y y_in in
      let off : w ≢ t.root = λ e. ne (e ∙ shortest.root y y_in) in
      let up_in = tree.up_in w w_in off in
      let over : joins g p w (t.up w) ≡ true = joins_turned g w p (t.up w) (tree.up_joins w w_in off) in
      let has : Contains (edges mesh) (pair p w) =
      contains_from_among (pair p w) (edges mesh) (from_joined mesh surface.is_mesh p w (t.up w, up_in, over)) in
      let number = over_edge p w has in
      let same : t.up w ≡ edge_number mesh (p, w) =
      (surfaces_are_cells mesh surface).one_edge p w (t.up w) (edge_number mesh (p, w)) up_in number.0 over number.1 in
      let adds : t.rank w ≡ t.rank p + edge_length lengths (t.up w) = (shortest.shortest y y_in).adds_up w w_in off in (
        tree.parent_in w w_in off,
        (has, ap (λ e. t.rank p + edge_length lengths e) (sym same) ∙ sym adds),
      )

  -- ---- the least vertex on the way

  pub on_way_at : (z u y : ℕ) → is_on_way trees z u y ≡ true → distance z y + distance y u ≡ distance z u
  on_way_at z u y h = eqb-true (distance z y + distance y u) (distance z u) h

  pub on_way_from : (z u y : ℕ) → distance z y + distance y u ≡ distance z u → is_on_way trees z u y ≡ true
  on_way_from z u y h = eq-eqb (distance z y + distance y u) (distance z u) h

  own_way : (z w : ℕ) → w < mesh.vertices → is_on_way trees z w w ≡ true
  own_way z w w_in = let none = zero_distance w w_in in on_way_from z w w (omega (arith, none))

  pub least_found : (z u : ℕ) → u < mesh.vertices →
      (least_on_way mesh trees z u < mesh.vertices) × (is_on_way trees z u (least_on_way mesh trees z u) ≡ true)
  least_found z u u_in = least_below-found mesh.vertices (is_on_way trees z u) u u_in (own_way z u u_in)

  pub least_no_greater : (z u y : ℕ) → y < mesh.vertices → distance z y + distance y u ≡ distance z u →
      least_on_way mesh trees z u ≤ y
  least_no_greater z u y y_in h =
      least_below-least mesh.vertices (is_on_way trees z u) y y_in (on_way_from z u y h)

  -- ---- the table

  module _ (z far : ℕ) (least : ℕ → ℕ) (z_in : z < mesh.vertices)
      (table : IsLeastTable mesh lengths (trees z).rank far least) where
    -- what it gives is on the way
    reaches : (k w : ℕ) → w < mesh.vertices → distance z w ≤ far → distance z w < k →
        (least w < mesh.vertices) × (distance z (least w) + distance (least w) w ≡ distance z w)
    reaches zero w w_in within below = absurd (omega arith)
    reaches (suc k) w w_in within below = elim (table.one w w_in within) [
      | inl own ↦
          let none = zero_distance w w_in in
          subst (λ y. (y < mesh.vertices) × (distance z y + distance y w ≡ distance z w)) (sym own)
          (w_in, omega (arith, none))
      | inr (p, p_in, tight, same) ↦
          let some = positive (edge_number mesh (p, w)) (over_edge p w tight.0).0 in
          let step : distance z p + edge_length lengths (edge_number mesh (p, w)) ≡ distance z w = tight.1 in
          let r = reaches k p p_in (omega (arith, within, step)) (omega (arith, some, step, below)) in
          let y = least p in
          let near : distance y w ≤ distance y p + edge_length lengths (edge_number mesh (p, w)) =
          by_edge y p w r.0 tight.0 in
          let long : distance z w ≤ distance z y + distance y w = by_way z y w z_in r.0 w_in in
          subst (λ y. (y < mesh.vertices) × (distance z y + distance y w ≡ distance z w)) (sym same)
          (r.0, omega (arith, r.1, near, long, step))
    ]

    -- and no greater than what is on the way
    bounded : (k y w : ℕ) → y < mesh.vertices → w < mesh.vertices → distance z w ≤ far → distance y w < k →
        distance z y + distance y w ≡ distance z w → least w ≤ y
    bounded zero y w y_in w_in within below way = absurd (omega arith)
    bounded (suc k) y w y_in w_in within below way = elim (cases_eq w y) [
      | inl same ↦ let own = table.own w w_in within in omega (arith, own, same)
      | inr ne ↦
          let p = (trees y).parent w in
          let (p_in, tight) = parent_tight y w y_in w_in ne in
          let some = positive (edge_number mesh (p, w)) (over_edge p w tight.0).0 in
          let step : distance y p + edge_length lengths (edge_number mesh (p, w)) ≡ distance y w = tight.1 in
          let near : distance z w ≤ distance z p + edge_length lengths (edge_number mesh (p, w)) =
          by_edge z p w z_in tight.0 in
          let long : distance z p ≤ distance z y + distance y p = by_way z y p z_in y_in p_in in
          let here : distance z p + edge_length lengths (edge_number mesh (p, w)) ≡ distance z w =
          omega (arith, near, long, step, way) in
          let before = table.before p w p_in w_in within (tight.0, here) in
          let rest = bounded k y p y_in p_in (omega (arith, within, here)) (omega (arith, some, step, below)) (omega (arith, near, long, step, way)) in
          omega (arith, before, rest)
    ]

pub least_tables_are_least : LeastTablesAreLeast
least_tables_are_least mesh lengths trees z far least surface positive shortest z_in table w w_in within =
    let k = suc ((trees z).rank w) in
    let r = reaches mesh lengths trees surface positive shortest z far least z_in table k w w_in within (omega arith) in
    let low = least_no_greater mesh lengths trees surface positive shortest z w (least w) r.0 r.1 in
    let y = least_on_way mesh trees z w in
    let found = least_found mesh lengths trees surface positive shortest z w w_in in
    let way = on_way_at mesh lengths trees surface positive shortest z w y found.1 in
    let high = bounded mesh lengths trees surface positive shortest z far least z_in table (suc ((trees y).rank w)) y w
    found.0 w_in within (omega arith) way in
    omega (arith, low, high)
