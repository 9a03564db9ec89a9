-- The two closed walks of which a loop is the sum, each over the loop's root.
use Rattle.surf_surfaces.proofs.Common.{◌≡◌, ℕ, zero, suc, ◌+◌, ◌<◌, ◌≤◌, Bool, true, eqb, sym, ap, ◌∙◌, subst, arith, inl, inr, ◌⊎◌, refl, List, [], ◌∷◌, ◌++◌, Contains, xor, Graph, IsGraph, joins, IsGraphWalk, walk_chain, graph_walk_length, xor_comm, xor_assoc, xor_meet, IsSimple, way_down, way_up, joined_below, joined_in, step_short}
use Rattle.surf_graphs.specs.Trees.{Tree, IsTree, on_path, loop, IsShortest, graph_loop_length}
use Rattle.surf_graphs.proofs.Loops.{joins_turned, joins_ends, Runs, runs-append, runs_step, runs_down, runs_up}
use Rattle.surf_graphs.proofs.Through.{both_ways}

-- a walk is over its end
over_end : (g : Graph) (a : ℕ) (w : List ℕ) (b : ℕ) → IsGraphWalk g a w b → Contains (a ∷ w) b
over_end g a [] b h = (0, omega arith, h)
over_end g a (c ∷ w) b h = let r = over_end g c w b h.1 in (suc r.0, omega (arith, r.1), r.2)

-- and stays so when it goes on
over_more : (a : ℕ) (u w : List ℕ) (b : ℕ) → Contains (a ∷ u) b → Contains (a ∷ (u ++ w)) b
over_more a u w b (zero, l, e) = (0, omega arith, e)
over_more a [] w b (suc k, l, e) = absurd (omega arith)
over_more a (c ∷ u) w b (suc k, l, e) =
    let r = over_more c u w b (k, omega arith, e) in (suc r.0, omega (arith, r.1), r.2)

-- ((a + (e + b)) + c) + (c + (f + a)) is e + (f + b)
parts_meet : (a b c e f : Bool) → xor (xor (xor a (xor e b)) c) (xor c (xor f a)) ≡ xor e (xor f b)
parts_meet a b c e f =
    xor_meet (xor a (xor e b)) c (xor f a)
    ∙ ap (λ x. xor x (xor f a)) (xor_comm a (xor e b)) ∙ ap (xor (xor (xor e b) a)) (xor_comm f a)
    ∙ xor_meet (xor e b) a f ∙ xor_assoc e b f ∙ ap (xor e) (xor_comm b f)

xor_both : {a b c d : Bool} → a ≡ c → b ≡ d → xor a b ≡ xor c d
xor_both e f = cc

-- a closed walk at x over y that is no longer than a size
pub record IsOver (g : Graph) (len : ℕ → ℕ) (x y size : ℕ) (walk : List ℕ) : Type 0 where
  pub closed : IsGraphWalk g x walk x
  pub over : Contains (x ∷ walk) y
  pub no_longer : graph_walk_length g len x walk ≤ size

module _ (g : Graph) (len : ℕ → ℕ) (graph : IsGraph g) (simple : IsSimple g) (trees : ℕ → Tree)
    (root : (x : ℕ) → x < g.nodes → (trees x).root ≡ x) (is_tree : (x : ℕ) → x < g.nodes → IsTree g (trees x))
    (short : (x : ℕ) → x < g.nodes → IsShortest g len (trees x)) where
  -- from x down its tree to y
  down : (x y : ℕ) → x < g.nodes → y < g.nodes →
      Runs g len x (way_down (trees x) ((trees x).rank y) y) y (λ e. on_path (trees x) y e) ((trees x).rank y)
  down x y x_in y_in = subst (λ r. Runs g len r (way_down (trees x) ((trees x).rank y) y) y (λ e. on_path (trees x) y e)
      ((trees x).rank y)) (root x x_in)
      (runs_down g len (trees x) simple (is_tree x x_in) (short x x_in) ((trees x).rank y) y y_in (omega arith))

  -- from y up the tree at x
  up : (x y : ℕ) → x < g.nodes → y < g.nodes →
      Runs g len y (way_up (trees x) ((trees x).rank y) y) x (λ e. on_path (trees x) y e) ((trees x).rank y)
  up x y x_in y_in = subst (λ r. Runs g len y (way_up (trees x) ((trees x).rank y) y) r (λ e. on_path (trees x) y e)
      ((trees x).rank y)) (root x x_in)
      (runs_up g len (trees x) simple (is_tree x x_in) (short x x_in) ((trees x).rank y) y y_in (omega arith))

  -- closed walks at x over y, no longer than the loop of e at y, of which it is the sum
  pub record PartsOver (x y e : ℕ) : Type 0 where
    pub first : List ℕ
    pub second : List ℕ
    pub first_over : IsOver g len x y (graph_loop_length g len (trees y) e) first
    pub second_over : IsOver g len x y (graph_loop_length g len (trees y) e) second
    pub edges : (h : ℕ) → loop g (trees y) e h ≡ xor (walk_chain g x first h) (walk_chain g x second h)

  parts_over : (x y u v e : ℕ) → x < g.nodes → y < g.nodes → e < g.edges → joins g u v e ≡ true →
      ((h : ℕ) → loop g (trees y) e h ≡ xor (eqb e h) (xor (on_path (trees y) u h) (on_path (trees y) v h))) →
      (trees y).rank x + (trees x).rank u ≡ (trees y).rank u → PartsOver x y e
  parts_over x y u v e x_in y_in e_in over is on_way =
      let u_in = joined_below g graph u v (e, e_in, over) in
      let v_in = joined_in g graph u v (e, e_in, over) in
      let near = step_short g len (trees y) (short y y_in) u v e e_in over in
      let size : graph_loop_length g len (trees y) e ≡ (trees y).rank u + len e + (trees y).rank v = near.2 in
      let no_cut : (trees y).rank u ≤ len e + (trees y).rank v = near.0 in
      let same : (trees y).rank x ≡ (trees x).rank y =
      both_ways g len graph simple trees root is_tree short y x y_in x_in in
      let to_u = down x u x_in u_in in
      let from_v = up y v y_in v_in in
      let from_y = up x y x_in y_in in
      let cross = runs_step g len simple u v e e_in over _ y _ _ from_v in
      let there = runs-append g len x _ u _ y _ _ _ _ to_u cross in
      let one = runs-append g len x _ y _ x _ _ _ _ there from_y in
      let to_y = down x y x_in y_in in
      let on = down y u y_in u_in in
      let from_u = up x u x_in u_in in
      let later = runs-append g len y _ u _ x _ _ _ _ on from_u in
      let other = runs-append g len x _ y _ x _ _ _ _ to_y later in
      record {
        first = _;
        second = _;
        first_over = record {
          closed = one.walk;
          over = over_more x _ _ y (over_end g x _ y there.walk);
          no_longer = omega (arith, one.long);
        };
        second_over = record {
          closed = other.walk;
          over = over_more x _ _ y (over_end g x _ y to_y.walk);
          no_longer = omega (arith, other.long);
        };
        edges = λ h. is h ∙ sym (xor_both (one.edges h) (other.edges h) ∙ parts_meet (on_path (trees x) u h)
            (on_path (trees y) v h) (on_path (trees x) y h) (eqb e h) (on_path (trees y) u h));
      }

  -- where x is on the way from y to an end of e
  pub two_parts_over : (x y e : ℕ) → x < g.nodes → y < g.nodes → e < g.edges →
      ((trees y).rank x + (trees x).rank (g.from e) ≡ (trees y).rank (g.from e))
      ⊎ ((trees y).rank x + (trees x).rank (g.to e) ≡ (trees y).rank (g.to e)) → PartsOver x y e
  two_parts_over x y e x_in y_in e_in (inl on) =
      parts_over x y (g.from e) (g.to e) e x_in y_in e_in (joins_ends g e) (λ h. refl) on
  two_parts_over x y e x_in y_in e_in (inr on) =
      parts_over x y (g.to e) (g.from e) e x_in y_in e_in (joins_turned g (g.from e) (g.to e) e (joins_ends g e))
      (λ h. ap (xor (eqb e h)) (xor_comm (on_path (trees y) (g.from e) h) (on_path (trees y) (g.to e) h))) on
