-- The cover is a graph, and a search over it certifies its table.
use Rattle.surf_surfaces.proofs.Common.{◌≡◌, ◌≢◌, ℕ, ◌+◌, ◌*◌, ◌/◌, ◌%◌, ◌<◌, ◌≤◌, Bool, true, false, cond, eqb, List, [], ◌∷◌, bit_xor, refl, sym, ap, ◌∙◌, subst, arith, inl, inr, eq-eqb, ne_eqb, and_from, or_left, numbers, xor_equal, Split, IsSplit, primal, joins_turned, joins_ends, one_of, Mesh, edge_count, ends, IsSurface, edge_length, cells_of, edge_signature, div-mul-add, mod-mul-add, same_from_place, div_below, mod_below, div-add-mod', row_fits, add_zero, Graph, IsGraph, IsGraphWalk, IsJoined, joins, leaves, edge_between, edge_between_is, leaves_joined}
use Rattle.surf_surfaces.proofs.meshes.CellLaws.{surfaces_are_cells}
use Rattle.surf_classes.specs.Cover.{IsSet}
use Rattle.surf_classes.specs.CoverGraph.{set_count, cover_node, cover, cover_edge, IsCover, CoversAreGraphs, SearchesCertify}
use Rattle.surf_classes.proofs.SignedWalks.{walk_sum, xor_twice}
use Rattle.surf_classes.proofs.SignedSteps.{edge_set, xor_set, none_set, tight_from}
use Rattle.surf_classes.proofs.Reached.{between_one, way_to}
use Rattle.surf_classes.proofs.Tables.{xor_back}

joins_by : (g : Graph) (a b c : ℕ) → g.from c ≡ a → g.to c ≡ b → joins g a b c ≡ true
joins_by g a b c is_from is_to =
    or_left _ _ (and_from (eqb (g.from c) a) (eqb (g.to c) b) (eq-eqb (g.from c) a is_from) (eq-eqb (g.to c) b is_to))

module _ (mesh : Mesh) (d : Split) (surface : IsSurface mesh) (split : IsSplit (cells_of mesh) d) where
  some_set : 0 < set_count d
  some_set = none_set d

  node_in : (v set : ℕ) → v < mesh.vertices → IsSet d set → cover_node d v set < mesh.vertices * set_count d
  node_in v set l is_set =
      let fits : v * set_count d + set_count d ≤ mesh.vertices * set_count d =
      row_fits v (set_count d) mesh.vertices (set_count d) l (omega arith) in
      omega (arith, fits, is_set)

  -- the set at the lesser end
  lesser_is_set : (v set e : ℕ) → IsSet d set → IsSet d (cond (eqb (ends mesh e).0 v) set (bit_xor set (edge_signature mesh d e)))
  lesser_is_set v set e is_set = pick (eqb (ends mesh e).0 v)
    where
      pick : (b : Bool) → IsSet d (cond b set (bit_xor set (edge_signature mesh d e)))
      pick true = is_set
      pick false = xor_set d set (edge_signature mesh d e) is_set (edge_set mesh d e)

  edge_in : (v set e : ℕ) → e < edge_count mesh → IsSet d set → cover_edge mesh d v set e < edge_count mesh * set_count d
  edge_in v set e l is_set =
      let fits : e * set_count d + set_count d ≤ edge_count mesh * set_count d =
      row_fits e (set_count d) (edge_count mesh) (set_count d) l (omega arith) in
      let inside = lesser_is_set v set e is_set in
      omega (arith, fits, inside)

  -- the edge below one of the cover, and its set
  edge_below : (v set e : ℕ) → IsSet d set → cover_edge mesh d v set e / set_count d ≡ e
  edge_below v set e is_set = div-mul-add e (set_count d) _ (lesser_is_set v set e is_set)

  set_below : (v set e : ℕ) → IsSet d set → cover_edge mesh d v set e % set_count d
      ≡ cond (eqb (ends mesh e).0 v) set (bit_xor set (edge_signature mesh d e))
  set_below v set e is_set = mod-mul-add e (set_count d) _ (lesser_is_set v set e is_set)

  -- no edge has one end twice
  ends_apart : (e a b : ℕ) → e < edge_count mesh → (ends mesh e).0 ≡ a → (ends mesh e).1 ≡ b → a ≢ b
  ends_apart e a b l is_a is_b same = (surfaces_are_cells mesh surface).ends_differ e l (is_a ∙ same ∙ sym is_b)

  over : (v u set e : ℕ) → e < edge_count mesh → IsSet d set → joins (primal (cells_of mesh)) v u e ≡ true →
      joins (cover mesh d) (cover_node d v set) (cover_node d u (bit_xor set (edge_signature mesh d e)))
      (cover_edge mesh d v set e) ≡ true
  over v u set e l is_set j =
      let sig = edge_signature mesh d in
      let c = cover_edge mesh d v set e in
      let below : c / set_count d ≡ e = edge_below v set e is_set in
      let left = set_below v set e is_set in
      let first : (cover mesh d).from c ≡ cover_node d (ends mesh e).0 (c % set_count d) =
      ap (λ k. cover_node d (ends mesh k).0 (c % set_count d)) below in
      let second : (cover mesh d).to c ≡ cover_node d (ends mesh e).1 (bit_xor (c % set_count d) (sig e)) =
      ap (λ k. cover_node d (ends mesh k).1 (bit_xor (c % set_count d) (sig k))) below in
      elim (one_of (primal (cells_of mesh)) v u e j) [
        | inl same ↦
            let at : c % set_count d ≡ set =
            left ∙ ap (λ b. cond b set (bit_xor set (sig e))) (eq-eqb (ends mesh e).0 v same.0) in
            joins_by (cover mesh d) (cover_node d v set) (cover_node d u (bit_xor set (sig e))) c
            (first ∙ ap (λ a. cover_node d a (c % set_count d)) same.0 ∙ ap (cover_node d v) at)
            (second ∙ ap (λ a. cover_node d a (bit_xor (c % set_count d) (sig e))) same.1
            ∙ ap (λ s. cover_node d u (bit_xor s (sig e))) at)
        | inr same ↦
            let apart : (ends mesh e).0 ≢ v = λ is. ends_apart e v v l is same.1 refl in
            let at : c % set_count d ≡ bit_xor set (sig e) =
            left ∙ ap (λ b. cond b set (bit_xor set (sig e))) (ne_eqb (ends mesh e).0 v apart) in
            joins_turned (cover mesh d) (cover_node d u (bit_xor set (sig e))) (cover_node d v set) c
            (joins_by (cover mesh d) (cover_node d u (bit_xor set (sig e))) (cover_node d v set) c
            (first ∙ ap (λ a. cover_node d a (c % set_count d)) same.0 ∙ ap (cover_node d u) at)
            (second ∙ ap (λ a. cover_node d a (bit_xor (c % set_count d) (sig e))) same.1
            ∙ ap (λ s. cover_node d v (bit_xor s (sig e))) at ∙ ap (cover_node d v) (xor_back (sig e) set)))
      ]

  low_set : (c : ℕ) → IsSet d (c % set_count d)
  low_set c = mod_below c (set_count d) some_set

  whole : (v set b c : ℕ) → IsSet d set → c < edge_count mesh * set_count d →
      joins (cover mesh d) (cover_node d v set) b c ≡ true →
      (u : ℕ) × (joins (primal (cells_of mesh)) v u (c / set_count d) ≡ true)
      × (b ≡ cover_node d u (bit_xor set (edge_signature mesh d (c / set_count d))))
      × (c ≡ cover_edge mesh d v set (c / set_count d))
  whole v set b c is_set l j =
      let sig = edge_signature mesh d in
      let e = c / set_count d in
      let s = c % set_count d in
      let g = primal (cells_of mesh) in
      let e_in : e < edge_count mesh = div_below c (set_count d) (edge_count mesh) some_set l in
      let parts : e * set_count d + s ≡ c = div-add-mod' c (set_count d) in
      elim (one_of (cover mesh d) (cover_node d v set) b c j) [
        | inl same ↦
            let at = same_from_place (ends mesh e).0 s v set (set_count d) (low_set c) is_set same.0 in
            let second : cover_node d (ends mesh e).1 (bit_xor s (sig e)) ≡ b = same.1 in (
              (ends mesh e).1,
              joins_by g v (ends mesh e).1 e at.0 refl,
              sym second ∙ ap (λ t. cover_node d (ends mesh e).1 (bit_xor t (sig e))) at.1,
              sym parts ∙ ap (λ t. e * set_count d + t)
                  (at.1 ∙ ap (λ t. cond t set (bit_xor set (sig e))) (sym (eq-eqb (ends mesh e).0 v at.0))),
            )
        | inr same ↦
            let at = same_from_place (ends mesh e).1 (bit_xor s (sig e)) v set (set_count d)
            (xor_set d s (sig e) (low_set c) (edge_set mesh d e)) is_set same.1 in
            let first : cover_node d (ends mesh e).0 s ≡ b = same.0 in
            let set_is : s ≡ bit_xor set (sig e) = sym (xor_back (sig e) s) ∙ ap (λ t. bit_xor t (sig e)) at.1 in
            let apart : (ends mesh e).0 ≢ v = λ is. ends_apart e v v e_in is at.0 refl in (
              (ends mesh e).0,
              joins_turned g (ends mesh e).0 v e (joins_by g (ends mesh e).0 v e refl at.0),
              sym first ∙ ap (cover_node d (ends mesh e).0) set_is,
              sym parts ∙ ap (λ t. e * set_count d + t)
                  (set_is ∙ ap (λ t. cond t set (bit_xor set (sig e))) (sym (ne_eqb (ends mesh e).0 v apart))),
            )
      ]

  is_graph : IsGraph (cover mesh d)
  is_graph c l =
      let e = c / set_count d in
      let both = (surfaces_are_cells mesh surface).complex.primal_ends e
      (div_below c (set_count d) (edge_count mesh) some_set l) in (
        node_in (ends mesh e).0 (c % set_count d) both.0 (low_set c),
        node_in (ends mesh e).1 (bit_xor (c % set_count d) (edge_signature mesh d e)) both.1
            (xor_set d (c % set_count d) (edge_signature mesh d e) (low_set c) (edge_set mesh d e)),
      )

  -- a set of nodes that no edge leaves is left by no walk
  module _ (inside : ℕ → Bool) (closed : (c : ℕ) → c < edge_count mesh * set_count d → leaves (cover mesh d) inside c ≡ false)
    where
      along : (w : List ℕ) (v x s : ℕ) → IsGraphWalk (primal (cells_of mesh)) v w x → IsSet d s →
          inside (cover_node d v s)
          ≡ inside (cover_node d x (bit_xor s (walk_sum (primal (cells_of mesh)) (edge_signature mesh d) v w)))
      along [] v x s walk is_set =
          ap (λ a. inside (cover_node d a s)) walk
          ∙ ap (λ t. inside (cover_node d x t)) (sym (add_zero numbers s))
      along (y ∷ w) v x s walk is_set =
          let g = primal (cells_of mesh) in
          let sig = edge_signature mesh d in
          let e = edge_between g v y in
          let is = edge_between_is g v y walk.0 in
          let c = cover_edge mesh d v s e in
          let rest = walk_sum g sig y w in
          let step : inside (cover_node d v s) ≡ inside (cover_node d y (bit_xor s (sig e))) =
          xor_equal (inside (cover_node d v s)) (inside (cover_node d y (bit_xor s (sig e))))
          (sym (leaves_joined (cover mesh d) inside (cover_node d v s) (cover_node d y (bit_xor s (sig e))) c
          (over v y s e is.0 is_set is.1)) ∙ closed c (edge_in v s e is.0 is_set)) in
          step ∙ along w y x (bit_xor s (sig e)) walk.1 (xor_set d s (sig e) is_set (edge_set mesh d e))
          ∙ ap (λ t. inside (cover_node d x t)) (numbers.assoc s (sig e) rest)

      same_inside : (a b : ℕ) → a < mesh.vertices * set_count d → b < mesh.vertices * set_count d → inside a ≡ inside b
      same_inside a b la lb =
          let g = primal (cells_of mesh) in
          let sig = edge_signature mesh d in
          let v = a / set_count d in
          let x = b / set_count d in
          let s = a % set_count d in
          let t = b % set_count d in
          let v_in : v < mesh.vertices = div_below a (set_count d) mesh.vertices some_set la in
          let x_in : x < mesh.vertices = div_below b (set_count d) mesh.vertices some_set lb in
          let way = way_to mesh [] d surface split x v (bit_xor s t) x_in v_in (xor_set d s t (low_set a) (low_set b)) in
          ap inside (sym (div-add-mod' a (set_count d)))
          ∙ along way.walk v x s way.goes.walk (low_set a)
          ∙ ap (λ k. inside (cover_node d x k)) (ap (bit_xor s) way.goes.sum ∙ xor_twice s t)
          ∙ ap inside (div-add-mod' b (set_count d))

  pub is_cover : IsCover mesh d
  is_cover = record {
    is_graph = is_graph;
    connected = λ inside closed a b la lb. same_inside inside closed a b la lb;
    node_in = node_in;
    edge_in = edge_in;
    over = over;
    whole = whole;
  }

pub covers_are_graphs : CoversAreGraphs
covers_are_graphs mesh d surface split = is_cover mesh d surface split

pub searches_certify : SearchesCertify
searches_certify mesh lengths d surface split x x_in distance at_base near tight =
    let is = is_cover mesh d surface split in
    let g = primal (cells_of mesh) in
    let sig = edge_signature mesh d in
    let N = set_count d in
    let cells = (surfaces_are_cells mesh surface).complex in
    let step : (v u s e : ℕ) → v < mesh.vertices → u < mesh.vertices → e < edge_count mesh → IsSet d s →
    joins g v u e ≡ true →
    distance (cover_node d u (bit_xor s (sig e))) ≤ distance (cover_node d v s) + edge_length lengths e =
    λ v u s e v_in u_in e_in is_set j.
    subst (λ k. distance (cover_node d u (bit_xor s (sig e))) ≤ distance (cover_node d v s) + edge_length lengths k)
    (edge_below mesh d surface split v s e is_set)
    (near (cover_node d v s) (cover_node d u (bit_xor s (sig e))) (cover_edge mesh d v s e) (is.node_in v s v_in is_set)
    (is.node_in u (bit_xor s (sig e)) u_in (xor_set d s (sig e) is_set (edge_set mesh d e)))
    (is.edge_in v s e e_in is_set) (is.over v u s e e_in is_set j)) in
    record {
      none_at_start = at_base;
      tight = λ v s v_in is_set away.
          let (b, c, b_in, c_in, j, adds_up) = tight (cover_node d v s) (is.node_in v s v_in is_set)
          (λ same. let both = same_from_place v s x 0 N is_set (none_set d) same in away both.0 both.1) in
          let (u, joined, at, edge) = is.whole v s b c is_set c_in j in
          let e = c / N in
          let e_in : e < edge_count mesh = div_below c N (edge_count mesh) (none_set d) c_in in
          let is_joined : IsJoined g v u = (e, e_in, joined) in
          let between : edge_between g v u ≡ e = between_one mesh [] d surface split v u e is_joined refl in
          let total : distance (cover_node d u (bit_xor s (sig e))) + edge_length lengths e ≡ distance (cover_node d v s) =
          ap (λ k. distance k + edge_length lengths e) (sym at) ∙ sym adds_up in (
            u,
            tight_from mesh lengths d (λ y t. distance (cover_node d y t)) u v s surface.is_mesh (record {
              is_joined = is_joined;
              adds_up = ap (λ k. distance (cover_node d u (bit_xor s (sig k))) + edge_length lengths k) between ∙ total;
            }),
          );
      no_short_cut = λ e s e_in is_set.
          let both = cells.primal_ends e e_in in
          let there = joins_ends g e in (
            step (ends mesh e).0 (ends mesh e).1 s e both.0 both.1 e_in is_set there,
            step (ends mesh e).1 (ends mesh e).0 s e both.1 both.0 e_in is_set
                (joins_turned g (ends mesh e).0 (ends mesh e).1 e there),
          );
    }
