-- Shortest trees at all nodes: distances, which nodes are on the way to others, and closed walks through a node.
use Rattle.surf_z2.proofs.Common.{◌≡◌, ℕ, ◌+◌, ◌<◌, ◌≤◌, Bool, true, eqb, ne_eqb, refl, sym, ◌∙◌, ap, arith, subst, inl, inr, ◌⊎◌, List, [], ◌∷◌, ◌++◌, Contains, zero, suc, cases_eq, cases_Bool, false≢true, xor, numbers}
use Rattle.surf_z2.proofs.ParityLaws.{xor_comm, xor_assoc, xor_meet, xor-false}
use Rattle.surf_z2.proofs.Linear.{over_in}
use Rattle.surf_z2.proofs.Span.{InSpan}
use Rattle.surf_graphs.specs.Graphs.{Graph, IsGraph, joins, IsGraphWalk, walk_chain, graph_walk_length, edge_between}
use Rattle.surf_graphs.specs.Trees.{Tree, IsTree, on_path, loop, IsShortest, graph_loop_length}
use Rattle.surf_graphs.specs.Loops.{IsSimple, way_down, way_up}
use Rattle.surf_graphs.specs.Cells.{Cells, primal, IsCellComplex, Split}
use Rattle.surf_graphs.specs.Independence.{signature_of}
use Rattle.surf_graphs.proofs.Graphs.{edge_between_is, walk-append}
use Rattle.surf_graphs.proofs.Trees.{one_of, joined_below, joined_in}
use Rattle.surf_graphs.proofs.Lengths.{step_short, walk_reaches}
use Rattle.surf_graphs.proofs.Distances.{walk_from}
use Rattle.surf_graphs.proofs.Loops.{joins_turned, joins_ends, Runs, runs-append, runs_step, runs_down, runs_up}
use Rattle.surf_graphs.proofs.Independence.{signature_of-same, walk_sums}

-- for each edge of a walk, the way from the walk's start to one of its ends by the one tree, the edge, and the way from its
-- other end to the walk's end by the other tree are no longer than the walk
pub edge_bound : (g : Graph) (len : ℕ → ℕ) (t u : Tree) → IsShortest g len t → IsShortest g len u → (a : ℕ) (w : List ℕ)
    (b e : ℕ) → IsGraphWalk g a w b → walk_chain g a w e ≡ true →
    (p : ℕ) × (q : ℕ) × (joins g p q e ≡ true)
    × (u.rank p + len e + t.rank q ≤ u.rank a + graph_walk_length g len a w + t.rank b)
edge_bound g len t u to_end from_start a [] b e h on = absurd (false≢true on)
edge_bound g len t u to_end from_start a (c ∷ w) b e h on =
    let m = edge_between g a c in
    let step = edge_between_is g a c h.0 in
    elim (cases_eq m e) [
      | inl same ↦
          let rest : t.rank c ≤ graph_walk_length g len c w + t.rank b = walk_reaches g len t to_end c w b h.1 in
          (a, c, ap (joins g a c) (sym same) ∙ step.1, rw (← same) (omega arith))
      | inr ne ↦
          let later : walk_chain g c w e ≡ true = rw (ne_eqb m e ne) at on in
          let r = edge_bound g len t u to_end from_start c w b e h.1 later in
          let bound : u.rank r.0 + len e + t.rank r.1 ≤ u.rank c + graph_walk_length g len c w + t.rank b = r.3 in
          let second : u.rank c ≤ u.rank a + len m = (step_short g len u from_start a c m step.0 step.1).1 in
          (r.0, r.1, r.2, omega arith)
    ]

-- a walk over a node is a walk to it and one from it
pub walk_parts : (g : Graph) (a : ℕ) (w : List ℕ) (b z : ℕ) → IsGraphWalk g a w b → Contains (a ∷ w) z →
    (first : List ℕ) × (second : List ℕ) × (w ≡ first ++ second) × IsGraphWalk g a first z × IsGraphWalk g z second b
walk_parts g a w b z walk (zero, l, e) = ([], w, refl, e, subst (λ n. IsGraphWalk g n w b) e walk)
walk_parts g a [] b z walk (suc k, l, e) = absurd (omega arith)
walk_parts g a (c ∷ w) b z walk (suc k, l, e) =
    let r = walk_parts g c w b z walk.1 (k, omega arith, e) in
    (c ∷ r.0, r.1, ap (λ v. c ∷ v) r.2, (walk.0, r.3), r.4)

-- (a + (e + (b + c))) + (c + (f + a)) is e + (f + b)
parts_meet : (a b c e f : Bool) → xor (xor a (xor e (xor b c))) (xor c (xor f a)) ≡ xor e (xor f b)
parts_meet a b c e f =
    let left : xor a (xor e (xor b c)) ≡ xor (xor a (xor e b)) c =
    ap (xor a) (sym (xor_assoc e b c)) ∙ sym (xor_assoc a (xor e b) c) in
    ap (λ x. xor x (xor c (xor f a))) left ∙ xor_meet (xor a (xor e b)) c (xor f a)
    ∙ ap (λ x. xor x (xor f a)) (xor_comm a (xor e b)) ∙ ap (xor (xor (xor e b) a)) (xor_comm f a)
    ∙ xor_meet (xor e b) a f ∙ xor_assoc e b f ∙ ap (xor e) (xor_comm b f)

xor_both : {a b c d : Bool} → a ≡ c → b ≡ d → xor a b ≡ xor c d
xor_both e f = cc

module _ (g : Graph) (len : ℕ → ℕ) (graph : IsGraph g) (simple : IsSimple g) (trees : ℕ → Tree)
    (root : (x : ℕ) → x < g.nodes → (trees x).root ≡ x) (is_tree : (x : ℕ) → x < g.nodes → IsTree g (trees x))
    (short : (x : ℕ) → x < g.nodes → IsShortest g len (trees x)) where
  pub none_here : (x : ℕ) → x < g.nodes → (trees x).rank x ≡ 0
  none_here x l = ap (trees x).rank (sym (root x l)) ∙ (short x l).none_at_root

  -- from x down its tree to y
  down : (x y : ℕ) → x < g.nodes → y < g.nodes →
      Runs g len x (way_down (trees x) ((trees x).rank y) y) y (λ e. on_path (trees x) y e) ((trees x).rank y)
  down x y x_in y_in = subst (λ r. Runs g len r (way_down (trees x) ((trees x).rank y) y) y (λ e. on_path (trees x) y e)
      ((trees x).rank y)) (root x x_in)
      (runs_down g len (trees x) simple (is_tree x x_in) (short x x_in) ((trees x).rank y) y y_in (omega arith))

  -- from y up the tree at x
  up : (x y : ℕ) → x < g.nodes → y < g.nodes →
      Runs g len y (way_up (trees x) ((trees x).rank y) y) x (λ e. on_path (trees x) y e) ((trees x).rank y)
  up x y x_in y_in = subst (λ r. Runs g len y (way_up (trees x) ((trees x).rank y) y) r (λ e. on_path (trees x) y e)
      ((trees x).rank y)) (root x x_in)
      (runs_up g len (trees x) simple (is_tree x x_in) (short x x_in) ((trees x).rank y) y y_in (omega arith))

  no_farther : (x y : ℕ) → x < g.nodes → y < g.nodes → (trees y).rank x ≤ (trees x).rank y
  no_farther x y x_in y_in =
      let back = up x y x_in y_in in
      let bound = walk_from g len (trees y) (short y y_in) y (way_up (trees x) ((trees x).rank y) y) x back.walk in
      let long : graph_walk_length g len y (way_up (trees x) ((trees x).rank y) y) ≡ (trees x).rank y = back.long in
      let base : (trees y).rank y ≡ 0 = none_here y y_in in
      omega (arith, bound)

  -- distances are the same both ways
  pub both_ways : (x y : ℕ) → x < g.nodes → y < g.nodes → (trees x).rank y ≡ (trees y).rank x
  both_ways x y x_in y_in =
      let one = no_farther x y x_in y_in in
      let other = no_farther y x y_in x_in in
      omega (arith, one, other)

  -- and going by way of y is no shorter
  pub triangle : (x y z : ℕ) → x < g.nodes → y < g.nodes → z < g.nodes →
      (trees x).rank z ≤ (trees x).rank y + (trees y).rank z
  triangle x y z x_in y_in z_in =
      let on = down y z y_in z_in in
      let bound = walk_from g len (trees x) (short x x_in) y (way_down (trees y) ((trees y).rank z) z) z on.walk in
      let long : graph_walk_length g len y (way_down (trees y) ((trees y).rank z) z) ≡ (trees y).rank z = on.long in
      omega (arith, bound)

  -- ---- a closed walk at x, seen from z

  -- the loop of e at z is no longer than the size, and where it is as long, x is on the way from z to an end of e
  pub record IsSeen (x z e size : ℕ) : Type 0 where
    pub no_longer : graph_loop_length g len (trees z) e ≤ size
    pub on_way : graph_loop_length g len (trees z) e ≡ size →
        ((trees z).rank x + (trees x).rank (g.from e) ≡ (trees z).rank (g.from e))
        ⊎ ((trees z).rank x + (trees x).rank (g.to e) ≡ (trees z).rank (g.to e))

  seen : (x z e p q part rest : ℕ) → x < g.nodes → z < g.nodes → e < g.edges → joins g p q e ≡ true →
      (trees x).rank p + len e + (trees z).rank q ≤ part → (trees z).rank x ≤ rest → IsSeen x z e (part + rest)
  seen x z e p q part rest x_in z_in e_in over within far =
      let p_in = joined_below g graph p q (e, e_in, over) in
      let size : graph_loop_length g len (trees z) e ≡ (trees z).rank p + len e + (trees z).rank q =
      (step_short g len (trees z) (short z z_in) p q e e_in over).2 in
      let near : (trees z).rank p ≤ (trees z).rank x + (trees x).rank p = triangle z x p z_in x_in p_in in
      record {
        no_longer = omega arith;
        on_way = λ same.
            let is : (trees z).rank x + (trees x).rank p ≡ (trees z).rank p = omega arith in
            elim (one_of g p q e over) [
              | inl ends ↦ inl (subst (λ n. (trees z).rank x + (trees x).rank n ≡ (trees z).rank n) (sym ends.0) is)
              | inr ends ↦ inr (subst (λ n. (trees z).rank x + (trees x).rank n ≡ (trees z).rank n) (sym ends.1) is)
            ];
      }

  -- each edge of the walk is so
  edge_seen : (x z : ℕ) (first second : List ℕ) (e : ℕ) → x < g.nodes → z < g.nodes → e < g.edges →
      IsGraphWalk g x first z → IsGraphWalk g z second x → xor (walk_chain g z second e) (walk_chain g x first e) ≡ true →
      IsSeen x z e (graph_walk_length g len x first + graph_walk_length g len z second)
  edge_seen x z first second e x_in z_in e_in there back on =
      let here : (trees x).rank x ≡ 0 = none_here x x_in in
      let at_z : (trees z).rank z ≡ 0 = none_here z z_in in
      elim (cases_Bool (walk_chain g x first e)) [
        | inl is ↦
            let r = edge_bound g len (trees z) (trees x) (short z z_in) (short x x_in) x first z e there is in
            let far = walk_from g len (trees z) (short z z_in) z second x back in
            seen x z e r.0 r.1 (graph_walk_length g len x first) (graph_walk_length g len z second) x_in z_in e_in r.2
            (omega (arith, r.3)) (omega (arith, far))
        | inr out ↦
            let is : walk_chain g z second e ≡ true =
            sym (xor-false (walk_chain g z second e)) ∙ ap (xor (walk_chain g z second e)) (sym out) ∙ on in
            let r = edge_bound g len (trees x) (trees z) (short x x_in) (short z z_in) z second x e back is in
            let far = walk_reaches g len (trees z) (short z z_in) x first z there in
            subst (IsSeen x z e) (omega arith)
            (seen x z e r.1 r.0 (graph_walk_length g len z second) (graph_walk_length g len x first) x_in z_in e_in
            (joins_turned g r.0 r.1 e r.2) (omega (arith, r.3)) (omega (arith, far)))
      ]

  -- ---- a loop at z, seen from y on the way from z to an end of its edge

  -- closed walks at y, no longer than the loop, of which it is the sum
  pub record TwoParts (y z e : ℕ) : Type 0 where
    pub first : List ℕ
    pub second : List ℕ
    pub first_walk : IsGraphWalk g y first y
    pub second_walk : IsGraphWalk g y second y
    pub first_size : graph_walk_length g len y first ≤ graph_loop_length g len (trees z) e
    pub second_size : graph_walk_length g len y second ≤ graph_loop_length g len (trees z) e
    pub edges : (h : ℕ) → loop g (trees z) e h ≡ xor (walk_chain g y first h) (walk_chain g y second h)

  parts_over : (y z u v e : ℕ) → y < g.nodes → z < g.nodes → e < g.edges → joins g u v e ≡ true →
      ((h : ℕ) → loop g (trees z) e h ≡ xor (eqb e h) (xor (on_path (trees z) u h) (on_path (trees z) v h))) →
      (trees z).rank y + (trees y).rank u ≡ (trees z).rank u → TwoParts y z e
  parts_over y z u v e y_in z_in e_in over is on_way =
      let u_in = joined_below g graph u v (e, e_in, over) in
      let v_in = joined_in g graph u v (e, e_in, over) in
      let near = step_short g len (trees z) (short z z_in) u v e e_in over in
      let size : graph_loop_length g len (trees z) e ≡ (trees z).rank u + len e + (trees z).rank v = near.2 in
      let no_cut : (trees z).rank u ≤ len e + (trees z).rank v = near.0 in
      let same : (trees z).rank y ≡ (trees y).rank z = both_ways z y z_in y_in in
      let to_u = down y u y_in u_in in
      let from_v = up z v z_in v_in in
      let from_z = up y z y_in z_in in
      let home = runs-append g len v _ z _ y _ _ _ _ from_v from_z in
      let cross = runs_step g len simple u v e e_in over _ y _ _ home in
      let one = runs-append g len y _ u _ y _ _ _ _ to_u cross in
      let to_z = down y z y_in z_in in
      let on = down z u z_in u_in in
      let from_u = up y u y_in u_in in
      let later = runs-append g len z _ u _ y _ _ _ _ on from_u in
      let other = runs-append g len y _ z _ y _ _ _ _ to_z later in
      record {
        first = _;
        second = _;
        first_walk = one.walk;
        second_walk = other.walk;
        first_size = omega (arith, one.long);
        second_size = omega (arith, other.long);
        edges = λ h. is h ∙ sym (xor_both (one.edges h) (other.edges h) ∙ parts_meet (on_path (trees y) u h)
            (on_path (trees z) v h) (on_path (trees y) z h) (eqb e h) (on_path (trees z) u h));
      }

  pub two_parts : (y z e : ℕ) → y < g.nodes → z < g.nodes → e < g.edges →
      ((trees z).rank y + (trees y).rank (g.from e) ≡ (trees z).rank (g.from e))
      ⊎ ((trees z).rank y + (trees y).rank (g.to e) ≡ (trees z).rank (g.to e)) → TwoParts y z e
  two_parts y z e y_in z_in e_in (inl on) =
      parts_over y z (g.from e) (g.to e) e y_in z_in e_in (joins_ends g e) (λ h. refl) on
  two_parts y z e y_in z_in e_in (inr on) =
      parts_over y z (g.to e) (g.from e) e y_in z_in e_in (joins_turned g (g.from e) (g.to e) e (joins_ends g e))
      (λ h. ap (xor (eqb e h)) (xor_comm (on_path (trees z) (g.from e) h) (on_path (trees z) (g.to e) h))) on

module _ (s : Cells) (len : ℕ → ℕ) (d : Split) (cells : IsCellComplex s) (simple : IsSimple (primal s)) (trees : ℕ → Tree)
    (root : (x : ℕ) → x < s.vertices → (trees x).root ≡ x)
    (is_tree : (x : ℕ) → x < s.vertices → IsTree (primal s) (trees x))
    (short : (x : ℕ) → x < s.vertices → IsShortest (primal s) len (trees x)) where
  -- what spans the loops at z that are no later than a closed walk at x spans that walk, where it goes over z
  pub over_spanned : (xs : List ℕ) (x z : ℕ) (w : List ℕ) → x < s.vertices → z < s.vertices → IsGraphWalk (primal s) x w x →
      Contains (x ∷ w) z →
      ((e : ℕ) → e < s.edges →
      IsSeen (primal s) len cells.primal_ends simple trees root is_tree short x z e (graph_walk_length (primal s) len x w) →
      InSpan numbers xs (signature_of s d (loop (primal s) (trees z) e))) →
      InSpan numbers xs (signature_of s d (walk_chain (primal s) x w))
  over_spanned xs x z w x_in z_in walk over each =
      let g = primal s in
      let (first, second, is, there, back) = walk_parts g x w x z walk over in
      let straight = walk-append g len x first z second x there back in
      let turned = walk-append g len z second x first z back there in
      let size : graph_walk_length g len x w ≡ graph_walk_length g len x first + graph_walk_length g len z second =
      ap (graph_walk_length g len x) is ∙ straight.2 in
      let same : (e : ℕ) → walk_chain g x w e ≡ walk_chain g z (second ++ first) e =
      λ e. ap (λ v. walk_chain g x v e) is ∙ straight.1 e
      ∙ xor_comm (walk_chain g x first e) (walk_chain g z second e) ∙ sym (turned.1 e) in
      let sums = walk_sums s d cells (trees z) z (second ++ first) turned.0 in
      subst (InSpan numbers xs)
      (sym (signature_of-same s d (walk_chain g x w) (walk_chain g z (second ++ first)) (λ e l. same e) ∙ sums))
      (over_in numbers xs s.edges (walk_chain g z (second ++ first))
      (λ e. signature_of s d (loop g (trees z) e)) (λ e e_in on.
      each e e_in (subst (IsSeen g len cells.primal_ends simple trees root is_tree short x z e) (sym size)
      (edge_seen g len cells.primal_ends simple trees root is_tree short x z first second e x_in z_in e_in there back
      (sym (turned.1 e) ∙ on)))))
