-- The cover by a table of signatures is the cover.
use Rattle.surf_cotree.proofs.Common.{◌≡◌, ◌≢◌, ℕ, ◌*◌, ◌/◌, ◌<◌, ◌≤◌, Bool, true, false, not, ◌&&◌, cond, eqb, List, length, map, slice_index, bit_xor, sym, ap, ◌∙◌, subst, arith, inl, inr, cases_lt, cases_Bool, and_parts, eqb-true, eq-eqb, ne_eqb, length-map, get_or-map, get_or_past, map-map, div_below, div-mul-add, any_below-found, Tree, IsTree, in_tree, Mesh, edge_count, ends, IsSurface, cells_of, edge_signature, same_from, number_of-none, Graph, IsGraph, IsConnectedGraph, joins, ends_below, link_at, IsRow, other_of, edge_link}
use Rattle.surf_cover.proofs.Common.{IsSet, IsCertified, set_count, cover, cover_node, cover_edge, cover_length, is_cover, searches_certify, edge_set, xor_set, none_set, AreLengths, IsSettled, IsSearchable, node_of, cover_by, length_by, link_by, IsSignedBy}
use Rattle.surf_graphs.specs.Cells.{Split, IsSplit, primal, dual, signature, parts}
use Rattle.surf_tree.proofs.LengthLaws.{short_lengths}

-- a tree has no edge past those of the graph
tree_past : (g : Graph) (t : Tree) → IsTree g t → (e : ℕ) → g.edges ≤ e → in_tree g t e ≡ false
tree_past g t is e past = elim (cases_Bool (in_tree g t e)) [
  | inr out ↦ out
  | inl on ↦
      let (n, n_in, both) = any_below-found g.nodes (λ n. not (eqb n t.root) && eqb (t.up n) e) on in
      let parts = and_parts (not (eqb n t.root)) (eqb (t.up n) e) both in
      let is_e : t.up n ≡ e = eqb-true (t.up n) e parts.1 in
      let inside : t.up n < g.edges = is.up_in n n_in (not_root n parts.0) in
      absurd (omega arith)
]
  where
    not_root : (n : ℕ) → not (eqb n t.root) ≡ true → n ≢ t.root
    not_root n h same = let e = eq-eqb n t.root same in clash (eqb n t.root) h e
      where
        clash : (b : Bool) → not b ≡ true → b ≡ true → ⊥
        clash true h k = cc
        clash false h k = cc

-- nor has an edge past those of the mesh a signature
sign_past : (mesh : Mesh) (d : Split) → IsSplit (cells_of mesh) d → (e : ℕ) → edge_count mesh ≤ e → edge_signature mesh d e ≡ 0
sign_past mesh d split e past =
    let s = cells_of mesh in
    let no_tree : in_tree (primal s) d.tree e ≡ false = tree_past (primal s) d.tree split.tree_is e past in
    let no_cotree : in_tree (dual s) d.cotree e ≡ false = tree_past (dual s) d.cotree split.cotree_is e past in
    same_from (length d.left) (signature s d e) (λ k. false)
    (λ k l.
    let inside : slice_index d.left k < edge_count mesh = split.left_in k l in
    let other : slice_index d.left k ≢ e = omega arith in
    three (in_tree (primal s) d.tree e) (in_tree (dual s) d.cotree e) (parts s d e (slice_index d.left k)) (eqb (slice_index d.left k) e)
    no_tree no_cotree (ne_eqb (slice_index d.left k) e other))
    ∙ number_of-none (length d.left)
  where
    three : (a b x y : Bool) → a ≡ false → b ≡ false → y ≡ false → cond a false (cond b x y) ≡ false
    three true b x y p q r = cc
    three false true x y p q r = cc
    three false false x y p q r = r

-- a link of a vertex as a link of the vertex with a set
abbrev cover_link : Mesh → Split → ℕ → ℕ → ℕ × ℕ → ℕ × ℕ
cover_link mesh d v set link =
    (cover_node d link.0 (bit_xor set (edge_signature mesh d link.1)), cover_edge mesh d v set link.1)

-- the row of a vertex gives that of the vertex with a set
rows_go_up : (mesh : Mesh) (d : Split) → IsSurface mesh → IsSplit (cells_of mesh) d → (v set : ℕ) (row : List (ℕ × ℕ)) →
    v < mesh.vertices → IsSet d set → IsRow (primal (cells_of mesh)) v row →
    IsRow (cover mesh d) (cover_node d v set) (map (cover_link mesh d v set) row)
rows_go_up mesh d surface split v set row v_in is_set r =
    let is = is_cover mesh d surface split in
    let f = cover_link mesh d v set in
    let long : length (map f row) ≡ length row = length-map row f in
    let at : (k : ℕ) → k < length row → link_at (map f row) k ≡ f (link_at row k) = λ k l. get_or-map f row k (0, 0) (0, 0) l in
    record {
      edge_in = λ k l.
          let lr : k < length row = omega (arith, l, long) in
          subst (λ (p : ℕ × ℕ). p.1 < (cover mesh d).edges) (sym (at k lr))
          (is.edge_in v set (link_at row k).1 (r.edge_in k lr) is_set);
      neighbour_in = λ k l.
          let lr : k < length row = omega (arith, l, long) in
          subst (λ (p : ℕ × ℕ). p.0 < (cover mesh d).nodes) (sym (at k lr))
          (is.node_in (link_at row k).0 (bit_xor set (edge_signature mesh d (link_at row k).1)) (r.neighbour_in k lr)
          (xor_set d set (edge_signature mesh d (link_at row k).1) is_set (edge_set mesh d (link_at row k).1)));
      joined = λ k l.
          let lr : k < length row = omega (arith, l, long) in
          subst (λ (p : ℕ × ℕ). joins (cover mesh d) (cover_node d v set) p.0 p.1 ≡ true) (sym (at k lr))
          (is.over v (link_at row k).0 set (link_at row k).1 (r.edge_in k lr) is_set (r.joined k lr));
      whole = λ c b l j.
          let (u, joined, node, edge) = is.whole v set b c is_set l j in
          let e = c / set_count d in
          let (k, lk, link) = r.whole e u (div_below c (set_count d) (edge_count mesh) (none_set d) l) joined in
          (k, omega (arith, lk, long), at k lk ∙ ap f link ∙ λ i. (sym node i, sym edge i));
    }

-- the other end of an edge is a vertex
pub other_in : (mesh : Mesh) → IsSurface mesh → (e v : ℕ) → e < edge_count mesh → other_of (ends mesh e) v < mesh.vertices
other_in mesh surface e v l =
    let both = ends_below mesh surface.is_mesh e l in
    pick (eqb (ends mesh e).0 v) (ends mesh e).1 (ends mesh e).0 both.1 (omega (arith, both.0, both.1))
  where
    pick : (b : Bool) (x y : ℕ) → x < mesh.vertices → y < mesh.vertices → cond b x y < mesh.vertices
    pick true x y lx ly = lx
    pick false x y lx ly = ly

module _ (mesh : Mesh) (d : Split) (sets : ℕ) (signs : List ℕ) (signed : IsSignedBy mesh d sets signs) where
  sign_at : (e : ℕ) → slice_index signs e ≡ edge_signature mesh d e
  sign_at e = elim (cases_lt e (edge_count mesh)) [
    | inl l ↦ signed.signs_are e l
    | inr past ↦ get_or_past signs e 0 (omega (arith, past, signed.count)) ∙ sym (sign_past mesh d signed.split e past)
  ]

  pub same_sign : ◌≡◌ {A = ℕ → ℕ} (slice_index signs) (edge_signature mesh d)
  same_sign = λ i e. sign_at e i

  pub is_set : (set : ℕ) → set < sets → IsSet d set
  is_set set l = subst (λ n. set < n) signed.sets_are l

  -- sums of sets are sets
  pub sum_below : (set e : ℕ) → set < sets → bit_xor set (slice_index signs e) < sets
  sum_below set e l =
      subst (λ s. bit_xor set s < sets) (sym (sign_at e)) (subst (λ n. bit_xor set (edge_signature mesh d e) < n) (sym signed.sets_are)
      (xor_set d set (edge_signature mesh d e) (is_set set l) (edge_set mesh d e)))

  pub some_set : 0 < sets
  some_set = subst (λ n. 0 < n) (sym signed.sets_are) (none_set d)

  -- the edge below a link
  pub link_below : (v set e : ℕ) → set < sets → (link_by mesh sets (slice_index signs) v set e).1 / sets ≡ e
  link_below v set e l =
      div-mul-add e sets (cond (eqb (ends mesh e).0 v) set (bit_xor set (slice_index signs e)))
      (pick (eqb (ends mesh e).0 v) set (bit_xor set (slice_index signs e)) l (sum_below set e l))
    where
      pick : (b : Bool) (x y : ℕ) → x < sets → y < sets → cond b x y < sets
      pick true x y lx ly = lx
      pick false x y lx ly = ly

  pub row_up : IsSurface mesh → (v set : ℕ) (items : List ℕ) → v < mesh.vertices → set < sets →
      IsRow (primal (cells_of mesh)) v (map (edge_link mesh v) items) →
      IsRow (cover_by mesh sets (slice_index signs)) (node_of sets v set) (map (link_by mesh sets (slice_index signs) v set) items)
  row_up surface v set items v_in set_in row =
      let whole = rows_go_up mesh d surface signed.split v set (map (edge_link mesh v) items) v_in (is_set set set_in) row in
      let here : IsRow (cover mesh d) (cover_node d v set) (map (λ e. cover_link mesh d v set (edge_link mesh v e)) items) =
      subst (λ (r : List (ℕ × ℕ)). IsRow (cover mesh d) (cover_node d v set) r) (map-map (cover_link mesh d v set) (edge_link mesh v) items) whole in
      subst (λ (s : ℕ → ℕ). IsRow (cover_by mesh sets s) (node_of sets v set) (map (link_by mesh sets s v set) items)) (sym same_sign)
      (subst (λ n. IsRow (cover_by mesh n (edge_signature mesh d)) (node_of n v set) (map (link_by mesh n (edge_signature mesh d) v set) items))
      (sym signed.sets_are) here)

  pub searchable : IsSurface mesh → (lengths : List ℕ) → AreLengths lengths → mesh.vertices * sets ≤ 16777216 →
      IsSearchable (cover_by mesh sets (slice_index signs)) (length_by lengths sets)
  searchable surface lengths are few =
      let is = is_cover mesh d surface signed.split in
      record {
        is_graph = subst (λ (s : ℕ → ℕ). IsGraph (cover_by mesh sets s)) (sym same_sign)
            (subst (λ n. IsGraph (cover_by mesh n (edge_signature mesh d))) (sym signed.sets_are) is.is_graph);
        connected = subst (λ (s : ℕ → ℕ). IsConnectedGraph (cover_by mesh sets s)) (sym same_sign)
            (subst (λ n. IsConnectedGraph (cover_by mesh n (edge_signature mesh d))) (sym signed.sets_are) is.connected);
        few = omega (arith, few);
        short = λ c. short_lengths lengths are (c / sets);
      }

  -- what a search has settled is certified
  pub settled_certified : IsSurface mesh → (lengths : List ℕ) (x : ℕ) → x < mesh.vertices → (distance : ℕ → ℕ) →
      IsSettled (cover_by mesh sets (slice_index signs)) (length_by lengths sets) (node_of sets x 0) distance →
      IsCertified mesh lengths d x (λ v set. distance (node_of sets v set))
  settled_certified surface lengths x x_in distance settled =
      let first : IsSettled (cover_by mesh sets (edge_signature mesh d)) (length_by lengths sets) (node_of sets x 0) distance =
      subst (λ (s : ℕ → ℕ). IsSettled (cover_by mesh sets s) (length_by lengths sets) (node_of sets x 0) distance) same_sign settled in
      let s : IsSettled (cover mesh d) (cover_length lengths d) (cover_node d x 0) distance =
      subst (λ n. IsSettled (cover_by mesh n (edge_signature mesh d)) (length_by lengths n) (node_of n x 0) distance) signed.sets_are first in
      subst (λ n. IsCertified mesh lengths d x (λ v set. distance (node_of n v set))) (sym signed.sets_are)
      (searches_certify mesh lengths d surface signed.split x x_in distance s.at_base s.near
      (λ a l ne. let r = s.tight a l ne in (r.before, r.edge, r.before_in, r.edge_in, r.joined, r.is)))
