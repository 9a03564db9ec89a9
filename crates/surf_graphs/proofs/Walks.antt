-- Walks of a graph: their nodes, the ends of their edges, and their lengths off a set.
use Rattle.surf_z2.proofs.Common.{◌≡◌, ℕ, suc, ◌<◌, Bool, true, false, List, [], ◌∷◌, Contains, refl, sym, ap, ◌∙◌, arith, ne_eqb, inl, inr, AllByRecursion, cases_eq, false≢true}
use Rattle.surf_graphs.specs.Graphs.{Graph, IsGraph, joins, IsGraphWalk, edge_between, walk_chain, graph_walk_length}
use Rattle.surf_graphs.proofs.Graphs.{edge_between_is}
use Rattle.surf_graphs.proofs.Trees.{one_of, joined_in}

-- the nodes of a walk are nodes
pub walk_in : (g : Graph) → IsGraph g → (a : ℕ) (w : List ℕ) (b : ℕ) → a < g.nodes → IsGraphWalk g a w b →
    AllByRecursion (λ n. n < g.nodes) (a ∷ w)
walk_in g graph a [] b a_in h = (a_in, tt)
walk_in g graph a (c ∷ w) b a_in h = (a_in, walk_in g graph c w b (joined_in g graph a c h.0) h.1)

-- a walk that keeps off a set is as long by lengths that agree there
pub same_off : (g : Graph) (len other : ℕ → ℕ) (set : ℕ → Bool) →
    ((e : ℕ) → e < g.edges → set (g.from e) ≡ false → set (g.to e) ≡ false → other e ≡ len e) → (a : ℕ) (w : List ℕ)
    (b : ℕ) → IsGraphWalk g a w b → AllByRecursion (λ n. set n ≡ false) (a ∷ w) →
    graph_walk_length g other a w ≡ graph_walk_length g len a w
same_off g len other set agree a [] b h off = refl
same_off g len other set agree a (c ∷ w) b h off =
    let m = edge_between g a c in
    let step = edge_between_is g a c h.0 in
    let same : other m ≡ len m = elim (one_of g a c m step.1) [
      | inl ends ↦ agree m step.0 (ap set ends.0 ∙ off.0) (ap set ends.1 ∙ off.1.0)
      | inr ends ↦ agree m step.0 (ap set ends.0 ∙ off.1.0) (ap set ends.1 ∙ off.0)
    ] in
    let rest = same_off g len other set agree c w b h.1 off.1 in
    omega (arith, same, rest)

later : (a : ℕ) (xs : List ℕ) (x : ℕ) → Contains xs x → Contains (a ∷ xs) x
later a xs x (k, l, e) = (suc k, omega arith, e)

-- a walk has both ends of each edge that it runs an odd number of times
pub walk_has_ends : (g : Graph) (a : ℕ) (w : List ℕ) (b e : ℕ) → IsGraphWalk g a w b → walk_chain g a w e ≡ true →
    Contains (a ∷ w) (g.from e) × Contains (a ∷ w) (g.to e)
walk_has_ends g a [] b e walk on = absurd (false≢true on)
walk_has_ends g a (c ∷ w) b e walk on = elim (cases_eq (edge_between g a c) e) [
  | inl same ↦ elim (one_of g a c e (ap (joins g a c) (sym same) ∙ (edge_between_is g a c walk.0).1)) [
    | inl is ↦ ((0, omega arith, sym is.0), (1, omega arith, sym is.1))
    | inr is ↦ ((1, omega arith, sym is.0), (0, omega arith, sym is.1))
  ]
  | inr ne ↦
      let rest = walk_has_ends g c w b e walk.1 (rw (ne_eqb (edge_between g a c) e ne) at on) in
      (later a (c ∷ w) (g.from e) rest.0, later a (c ∷ w) (g.to e) rest.1)
]
