-- Simple cycles, and which of them separate.
use Rattle.surf_z2.proofs.Common.{◌≡◌, ◌≢◌, ℕ, ◌<◌, Bool, true, false, not, ◌&&◌, ◌||◌, eqb, refl, sym, ◌∙◌, ap, arith, ne_eqb, eq-eqb, inl, inr, ◌⊎◌, List, [], ◌∷◌, cases_eq, cases_Bool, and_parts, not-true, false_from_ne_true, false≢true, true_from_ne_false, xor, odd_below}
use Rattle.surf_graphs.specs.Graphs.{Graph, IsGraph, graph_touches, joins, IsEven, IsGraphWalk, IsJoined, walk_chain, edge_between}
use Rattle.surf_graphs.specs.Cells.{dual, Cells, primal, IsCellComplex, cell_boundary, IsNullChain}
use Rattle.surf_graphs.specs.Cycles.{graph_runs, IsOff, IsDistinct, IsSimpleGraphCycle, Separates}
use Rattle.surf_z2.proofs.ParityLaws.{xor-false, xor_equal, and-true, and-false, and_assoc, and-xor, odd_below-same, odd_below-none, odd_below-at, odd_below-and, odd_below-xor-and}
use Rattle.surf_graphs.proofs.Graphs.{leaves_joined, walk_leaves, edge_between_is}
use Rattle.surf_graphs.proofs.Trees.{one_of}
use Rattle.surf_graphs.proofs.CellLaws.{faces_closed, boundary_even}

-- the edges of a walk do not end at a node that it does not visit
walk_off : (g : Graph) (n a : ℕ) (w : List ℕ) (b e : ℕ) → IsGraphWalk g a w b → n ≢ a → IsOff n w →
    walk_chain g a w e ≡ true → graph_touches g n e ≡ false
walk_off g n a [] b e h na off on = absurd (false≢true on)
walk_off g n a (c ∷ w) b e h na off on =
    let m = edge_between g a c in
    let step = edge_between_is g a c h.0 in
    elim (cases_eq m e) [
      | inl same ↦ rw (← same)
          (leaves_joined g (λ x. eqb x n) a c m step.1 ∙ rw (ne_eqb a n (λ x. na (sym x)), ne_eqb c n (λ x. off.0 (sym x))))
      | inr ne ↦ walk_off g n c w b e h.1 off.0 off.1 (rw (ne_eqb m e ne) at on)
    ]

walk_end : (g : Graph) (n a c : ℕ) (w : List ℕ) (b : ℕ) → IsGraphWalk g a (c ∷ w) b → IsOff n (c ∷ w) → n ≢ b
walk_end g n a c [] b h off = λ e. off.0 (e ∙ sym h.1)
walk_end g n a c (x ∷ w) b h off = walk_end g n c x w b h.1 off.1

-- a chain without edge m
abbrev without : (ℕ → Bool) → ℕ → ℕ → Bool
without q m e = q e && not (eqb m e)

without_back : (q : ℕ → Bool) (m e : ℕ) → q e ≡ xor (q m && eqb m e) (without q m e)
without_back q m e = elim (cases_eq m e) [
  | inl same ↦ rw (eq-eqb m e same, same, and-true (q e), and-false (q e)) (sym (xor-false (q e)))
  | inr ne ↦ rw (ne_eqb m e ne, and-true (q e), and-false (q m))
]

without_touches : (g : Graph) (q : ℕ → Bool) (m n : ℕ) → m < g.edges →
    odd_below g.edges (λ e. q e && graph_touches g n e)
    ≡ xor (q m && graph_touches g n m) (odd_below g.edges (λ e. without q m e && graph_touches g n e))
without_touches g q m n l =
    odd_below-same g.edges (λ e. q e && graph_touches g n e) (λ e. xor (q m && eqb m e) (without q m e) && graph_touches g n e)
    (λ e le. ap (λ x. x && graph_touches g n e) (without_back q m e))
    ∙ (odd_below-xor-and g.edges (λ e. q m && eqb m e) (without q m) (λ e. graph_touches g n e)
    ∙ ap (λ x. xor x (odd_below g.edges (λ e. without q m e && graph_touches g n e)))
    (odd_below-same g.edges (λ e. (q m && eqb m e) && graph_touches g n e) (λ e. q m && (eqb m e && graph_touches g n e))
    (λ e le. and_assoc (q m) (eqb m e) (graph_touches g n e))
    ∙ (odd_below-and g.edges (q m) (λ e. eqb m e && graph_touches g n e) ∙ ap (λ x. q m && x)
    (odd_below-at g.edges m (λ e. graph_touches g n e) l))))

joined_again : (q : ℕ → Bool) (m : ℕ) (y : Bool) (r : ℕ → Bool) (e : ℕ) → q m ≡ y → without q m e ≡ (y && r e) →
    q e ≡ (q m && xor (eqb m e) (r e))
joined_again q m y r e same is = without_back q m e ∙ (rw (is, same) (sym (and-xor y (eqb m e) (r e))))

-- the second node of a walk is a node
step_in : (g : Graph) → IsGraph g → (a c : ℕ) → IsJoined g a c → c < g.nodes
step_in g graph a c (e, l, h) =
    elim (one_of g a c e h) [ inl p ↦ rw (← p.1) (graph e l).1 | inr p ↦ rw (← p.0) (graph e l).0 ]

without_single : (q : ℕ → Bool) (m e : ℕ) → (q e ≡ true → xor (eqb m e) false ≡ true) → without q m e ≡ false
without_single q m e inside = elim (cases_Bool (q e)) [
  | inl on ↦ rw (on, sym (xor-false (eqb m e)) ∙ inside on)
  | inr out ↦ rw out
]

without_inside : (q : ℕ → Bool) (m : ℕ) (r : ℕ → Bool) (e : ℕ) → (q e ≡ true → xor (eqb m e) (r e) ≡ true) →
    without q m e ≡ true → r e ≡ true
without_inside q m r e inside on =
    let both : (q e ≡ true) × (not (eqb m e) ≡ true) = and_parts (q e) (not (eqb m e)) on in
    rw (not-true (eqb m e) both.1) at (inside both.0)

-- without its first edge, the chain is even at the first node too
without_even : (g : Graph) (a c : ℕ) (w : List ℕ) (b n : ℕ) → IsGraphWalk g a (c ∷ w) b → IsOff a (c ∷ w) → (q : ℕ → Bool) →
    ((e : ℕ) → e < g.edges → q e ≡ true → walk_chain g a (c ∷ w) e ≡ true) → n ≢ c →
    (n ≢ a → odd_below g.edges (λ e. q e && graph_touches g n e) ≡ false) →
    odd_below g.edges (λ e. without q (edge_between g a c) e && graph_touches g n e) ≡ false
without_even g a c w b n h off q inside nc even =
    let m = edge_between g a c in
    let step = edge_between_is g a c h.0 in
    elim (cases_eq n a) [
      | inl same ↦ odd_below-none g.edges (λ e. without q m e && graph_touches g n e)
          (λ e l. elim (cases_Bool (without q m e)) [
            | inl on ↦
                let later : walk_chain g c w e ≡ true = without_inside q m (walk_chain g c w) e (inside e l) on in
                rw (on, same, walk_off g a c w b e h.1 off.0 off.1 later)
            | inr out ↦ rw out
          ])
      | inr na ↦
          let missed : graph_touches g n m ≡ false =
          leaves_joined g (λ x. eqb x n) a c m step.1 ∙ rw (ne_eqb a n (λ x. na (sym x)), ne_eqb c n (λ x. nc (sym x)))
          in
          sym (without_touches g q m n step.0 ∙ rw (missed, and-false (q m))) ∙ even na
    ]

-- at the second node the first edge and the others meet
first_same : (g : Graph) → IsGraph g → (a c x : ℕ) (w : List ℕ) (b : ℕ) → IsGraphWalk g a (c ∷ (x ∷ w)) b → a ≢ c →
    IsDistinct (c ∷ (x ∷ w)) → (q : ℕ → Bool) →
    ((n : ℕ) → n < g.nodes → n ≢ a → n ≢ b → odd_below g.edges (λ e. q e && graph_touches g n e) ≡ false) →
    (y : Bool) → ((e : ℕ) → e < g.edges → without q (edge_between g a c) e ≡ (y && walk_chain g c (x ∷ w) e)) →
    q (edge_between g a c) ≡ y
first_same g graph a c x w b h ac apart q even y is =
    let m = edge_between g a c in
    let step = edge_between_is g a c h.0 in
    let cb : c ≢ b = walk_end g c c x w b h.1 apart.0 in
    let zero_c : odd_below g.edges (λ e. q e && graph_touches g c e) ≡ false =
    even c (step_in g graph a c h.0) (λ e. ac (sym e)) cb in
    let at_m : graph_touches g c m ≡ true =
    leaves_joined g (λ n. eqb n c) a c m step.1 ∙ rw (ne_eqb a c ac, eq-eqb c c refl) in
    let others : odd_below g.edges (λ e. without q m e && graph_touches g c e) ≡ y =
    odd_below-same g.edges (λ e. without q m e && graph_touches g c e) (λ e. y && (walk_chain g c (x ∷ w) e && graph_touches g c e))
    (λ e l. ap (λ z. z && graph_touches g c e) (is e l) ∙ and_assoc y (walk_chain g c (x ∷ w) e) (graph_touches g c e))
    ∙ (odd_below-and g.edges y (λ e. walk_chain g c (x ∷ w) e && graph_touches g c e)
    ∙ (ap (λ z. y && z) (walk_leaves g (λ n. eqb n c) c (x ∷ w) b h.1)
    ∙ rw (eq-eqb c c refl, ne_eqb b c (λ e. cb (sym e))) (and-true y))) in
    xor_equal (q m) y (sym (without_touches g q m c step.0 ∙ rw (at_m, and-true (q m), others)) ∙ zero_c)

-- a chain of edges of a walk, which visits no node twice, that is even at all nodes but its ends has all of the walk's
-- edges or none
path_whole : (g : Graph) → IsGraph g → (a : ℕ) (w : List ℕ) (b : ℕ) → IsGraphWalk g a w b → IsOff a w → IsDistinct w →
    (q : ℕ → Bool) →
    ((e : ℕ) → e < g.edges → q e ≡ true → walk_chain g a w e ≡ true) →
    ((n : ℕ) → n < g.nodes → n ≢ a → n ≢ b → odd_below g.edges (λ e. q e && graph_touches g n e) ≡ false) →
    (all : Bool) × ((e : ℕ) → e < g.edges → q e ≡ (all && walk_chain g a w e))
path_whole g graph a [] b h off apart q inside even =
    (false, λ e l. false_from_ne_true (q e) (λ on. false≢true (inside e l on)))
path_whole g graph a (c ∷ []) b h off apart q inside even =
    let m = edge_between g a c in
    (q m, λ e l. joined_again q m (q m) (λ x. false) e refl (without_single q m e (inside e l) ∙ sym (and-false (q m))))
path_whole g graph a (c ∷ (x ∷ w)) b h off apart q inside even =
    let m = edge_between g a c in
    let step = edge_between_is g a c h.0 in
    let rest = path_whole g graph c (x ∷ w) b h.1 apart.0 apart.1 (without q m)
    (λ e l on. without_inside q m (walk_chain g c (x ∷ w)) e (inside e l) on)
    (λ n ln nc nb. without_even g a c (x ∷ w) b n h off q inside nc (λ na. even n ln na nb)) in (
      q m,
      λ e l. joined_again q m rest.0 (walk_chain g c (x ∷ w)) e
          (first_same g graph a c x w b h off.0 apart q even rest.0 rest.1) (rest.1 e l),
    )

-- an even chain of edges of a simple cycle has all of the cycle's edges or none
pub cycle_whole : (g : Graph) → IsGraph g → (a : ℕ) (w : List ℕ) → IsSimpleGraphCycle g a w → (q : ℕ → Bool) → IsEven g q →
    ((e : ℕ) → e < g.edges → q e ≡ true → walk_chain g a w e ≡ true) →
    (all : Bool) × ((e : ℕ) → e < g.edges → q e ≡ (all && walk_chain g a w e))
cycle_whole g graph a [] h q even inside = absurd (omega (arith, h.1))
cycle_whole g graph a (c ∷ []) h q even inside = absurd (omega (arith, h.1))
cycle_whole g graph a (c ∷ (x ∷ w)) h q even inside =
    let m = edge_between g a c in
    let walk = h.0 in
    let apart = h.2 in
    let step = edge_between_is g a c walk.0 in
    let ca : c ≢ a = walk_end g c c x w a walk.1 apart.0 in
    let rest = path_whole g graph c (x ∷ w) a walk.1 apart.0 apart.1 (without q m)
    (λ e l on. without_inside q m (walk_chain g c (x ∷ w)) e (inside e l) on)
    (λ n ln nc na.
    let missed : graph_touches g n m ≡ false =
    leaves_joined g (λ z. eqb z n) a c m step.1 ∙ rw (ne_eqb a n (λ z. na (sym z)), ne_eqb c n (λ z. nc (sym z))) in
    sym (without_touches g q m n step.0 ∙ rw (missed, and-false (q m))) ∙ even n ln) in (
      q m,
      λ e l. joined_again q m rest.0 (walk_chain g c (x ∷ w)) e
          (first_same g graph a c x w a walk (λ z. ca (sym z)) apart q (λ n ln na nb. even n ln) rest.0 rest.1) (rest.1 e l),
    )

other_end : (g : Graph) (a c x m : ℕ) → joins g a c m ≡ true → joins g c x m ≡ true → c ≢ a → x ≡ a
other_end g a c x m one two ne = meet (g.from m) (g.to m) a c x (one_of g a c m one) (one_of g c x m two) ne
  where
    meet : (p q a c x : ℕ) → ((p ≡ a) × (q ≡ c)) ⊎ ((p ≡ c) × (q ≡ a)) → ((p ≡ c) × (q ≡ x)) ⊎ ((p ≡ x) × (q ≡ c)) →
        c ≢ a → x ≡ a
    meet p q a c x one two ne = grind arith

-- the first edge of a simple cycle is run once
first_once : (g : Graph) (a c x y : ℕ) (w : List ℕ) → IsGraphWalk g a (c ∷ (x ∷ (y ∷ w))) a →
    IsDistinct (c ∷ (x ∷ (y ∷ w))) → walk_chain g a (c ∷ (x ∷ (y ∷ w))) (edge_between g a c) ≡ true
first_once g a c x y w walk apart =
    let m = edge_between g a c in
    let step = edge_between_is g a c walk.0 in
    let next = edge_between_is g c x walk.1.0 in
    let ca : c ≢ a = walk_end g c c x (y ∷ w) a walk.1 apart.0 in
    let xa : x ≢ a = walk_end g x x y w a walk.1.1 apart.1.0 in
    let at_c : graph_touches g c m ≡ true =
    leaves_joined g (λ n. eqb n c) a c m step.1 ∙ rw (ne_eqb a c (λ z. ca (sym z)), eq-eqb c c refl) in
    let other : edge_between g c x ≢ m = λ same. xa (other_end g a c x m step.1 (rw same at next.1) ca) in
    let later : walk_chain g x (y ∷ w) m ≡ false = false_from_ne_true (walk_chain g x (y ∷ w) m) (λ on.
    false≢true (sym (walk_off g c x (y ∷ w) a m walk.1.1 apart.0.0 apart.0.1 on) ∙ at_c)) in
    rw (eq-eqb m m refl, ne_eqb (edge_between g c x) m other, later)

pub cycle_edge : (g : Graph) (a : ℕ) (w : List ℕ) → IsSimpleGraphCycle g a w →
    (e : ℕ) × (e < g.edges) × (walk_chain g a w e ≡ true)
cycle_edge g a [] h = absurd (omega (arith, h.1))
cycle_edge g a (c ∷ []) h = absurd (omega (arith, h.1))
cycle_edge g a (c ∷ (x ∷ [])) h = absurd (omega (arith, h.1))
cycle_edge g a (c ∷ (x ∷ (y ∷ w))) h =
    (edge_between g a c, (edge_between_is g a c h.0.0).0, first_once g a c x y w h.0 h.2)

pub null_separates : (s : Cells) → IsCellComplex s → (a : ℕ) (w : List ℕ) → IsSimpleGraphCycle (primal s) a w →
    IsNullChain s (walk_chain (primal s) a w) → Separates s (walk_chain (primal s) a w)
null_separates s ok a w cycle (set, is) =
    let (e, l, on) = cycle_edge (primal s) a w cycle in
    let ends = ok.dual_ends e l in
    let differ : cell_boundary s set e ≡ true = sym (is e l) ∙ on in (
      set,
      (λ x lx out. sym (is x lx) ∙ out),
      elim (cases_Bool (set (s.near e))) [
        | inl yes_near ↦ (s.near e, ends.0, yes_near)
        | inr no_near ↦ (s.far e, ends.1, rw no_near at differ)
      ],
      elim (cases_Bool (set (s.near e))) [
        | inl yes_near ↦ (s.far e, ends.1, not-true (set (s.far e)) (rw yes_near at differ))
        | inr no_near ↦ (s.near e, ends.0, no_near)
      ],
    )

pub separates_null : (s : Cells) → IsCellComplex s → (a : ℕ) (w : List ℕ) → IsSimpleGraphCycle (primal s) a w →
    Separates s (walk_chain (primal s) a w) → IsNullChain s (walk_chain (primal s) a w)
separates_null s ok a w cycle (set, stays, (f, lf, yes_f), (g, lg, no_g)) =
    let whole = cycle_whole (primal s) ok.primal_ends a w cycle (cell_boundary s set) (boundary_even s ok set)
    (λ e l on. true_from_ne_false (walk_chain (primal s) a w e) (λ out. false≢true (sym (stays e l out) ∙ on))) in
    elim (cases_Bool whole.0) [
      | inl yes_all ↦ (set, λ e l. sym (whole.1 e l ∙ rw yes_all))
      | inr no_all ↦ absurd
          (false≢true (sym no_g ∙ (sym (ok.dual_connected set (λ e l. whole.1 e l ∙ rw no_all) f g lf lg) ∙ yes_f)))
    ]

runs_off : (g : Graph) (n a : ℕ) (w : List ℕ) (b e : ℕ) → IsGraphWalk g a w b → n ≢ a → IsOff n w → graph_runs g a w e ≡ true →
    graph_touches g n e ≡ false
runs_off g n a [] b e h na off on = absurd (false≢true on)
runs_off g n a (c ∷ w) b e h na off on =
    let m = edge_between g a c in
    let step = edge_between_is g a c h.0 in
    elim (cases_eq m e) [
      | inl same ↦ rw (← same)
          (leaves_joined g (λ x. eqb x n) a c m step.1 ∙ rw (ne_eqb a n (λ x. na (sym x)), ne_eqb c n (λ x. off.0 (sym x))))
      | inr ne ↦ runs_off g n c w b e h.1 off.0 off.1 (rw (ne_eqb m e ne) at on)
    ]

-- a walk that visits no node twice runs each of its edges once
path_runs : (g : Graph) (a : ℕ) (w : List ℕ) (b : ℕ) → IsGraphWalk g a w b → IsOff a w → IsDistinct w → (e : ℕ) →
    walk_chain g a w e ≡ graph_runs g a w e
path_runs g a [] b h off apart e = refl
path_runs g a (c ∷ w) b h off apart e =
    let m = edge_between g a c in
    let step = edge_between_is g a c h.0 in
    let rest : walk_chain g c w e ≡ graph_runs g c w e = path_runs g c w b h.1 apart.0 apart.1 e in
    elim (cases_eq m e) [
      | inl same ↦
          let at_a : graph_touches g a m ≡ true =
          leaves_joined g (λ n. eqb n a) a c m step.1 ∙ rw (eq-eqb a a refl, ne_eqb c a (λ x. off.0 (sym x))) in
          let later : graph_runs g c w m ≡ false =
          false_from_ne_true (graph_runs g c w m) (λ on. false≢true (sym (runs_off g a c w b m h.1 off.0 off.1 on) ∙ at_a)) in
          rw (rest, ← same, eq-eqb m m refl, later)
      | inr ne ↦ rw (ne_eqb m e ne, rest)
    ]

-- and so does a simple cycle
pub cycle_runs : (g : Graph) (a : ℕ) (w : List ℕ) → IsSimpleGraphCycle g a w → (e : ℕ) → walk_chain g a w e ≡ graph_runs g a w e
cycle_runs g a [] h e = refl
cycle_runs g a (c ∷ []) h e = absurd (omega (arith, h.1))
cycle_runs g a (c ∷ (x ∷ [])) h e = absurd (omega (arith, h.1))
cycle_runs g a (c ∷ (x ∷ (y ∷ w))) h e =
    let m = edge_between g a c in
    let rest : walk_chain g c (x ∷ (y ∷ w)) e ≡ graph_runs g c (x ∷ (y ∷ w)) e =
    path_runs g c (x ∷ (y ∷ w)) a h.0.1 h.2.0 h.2.1 e in
    elim (cases_eq m e) [
      | inl same ↦
          let once : walk_chain g a (c ∷ (x ∷ (y ∷ w))) e ≡ true = rw (← same) (first_once g a c x y w h.0 h.2) in
          once ∙ sym (rw (eq-eqb m e same))
      | inr ne ↦ ap (λ z. xor z (walk_chain g c (x ∷ (y ∷ w)) e)) (ne_eqb m e ne) ∙
          (rest ∙ ap (λ z. z || graph_runs g c (x ∷ (y ∷ w)) e) (sym (ne_eqb m e ne)))
    ]

-- faces that are simple cycles, each edge on the boundary of its two faces, have even corners
pub faces_simple : (s : Cells) (start : ℕ → ℕ) (around : ℕ → List ℕ) →
    ((f : ℕ) → f < s.faces → IsSimpleGraphCycle (primal s) (start f) (around f)) →
    ((f e : ℕ) → f < s.faces → e < s.edges → graph_touches (dual s) f e ≡ graph_runs (primal s) (start f) (around f) e) →
    (v f : ℕ) → v < s.vertices → f < s.faces → odd_below s.edges (λ e. graph_touches (primal s) v e && graph_touches (dual s) f e)
    ≡ false
faces_simple s start around simple edges =
    faces_closed s start around (λ f l. (simple f l).0)
    (λ f e lf le. edges f e lf le ∙ sym (cycle_runs (primal s) (start f) (around f) (simple f lf) e))
