-- Where two nodes are joined by a walk, they are joined by a shortest one.
use Rattle.std.proofs.Common.{◌≡◌, ℕ, zero, suc, ◌+◌, ◌-◌, ◌<◌, ◌≤◌, Bool, true, false, ◌&&◌, ◌||◌, eqb, leb, List, [], ◌∷◌, length, sym, ◌∙◌, ap, arith, inl, inr, eqb-true, eq-eqb}
use Rattle.std.proofs.lemmas.Bool.{cases_Bool, cases_lt, and_parts, and_from, or_cases, or_left, or_right, leb-true, le-leb, false≢true}
use Rattle.surf_z2.specs.Parity.{any_below}
use Rattle.surf_z2.proofs.ParityLaws.{any_below-found, any_below-from, any_below-none}
use Rattle.surf_graphs.specs.Graphs.{Graph, IsGraph, joins, edge_between, IsGraphWalk, graph_walk_length}
use Rattle.surf_graphs.proofs.Graphs.{edge_between_is}
use Rattle.surf_graphs.proofs.Trees.{joined_in}

-- the first number that passes
pub first_passing : (n : ℕ) (p : ℕ → Bool) → any_below n p ≡ true →
    (k : ℕ) × (k < n) × (p k ≡ true) × ((j : ℕ) → j < k → p j ≡ false)
first_passing zero p h = absurd (false≢true h)
first_passing (suc n) p h = elim (cases_Bool (any_below n p)) [
  | inl some ↦ let (k, l, is, before) = first_passing n p some in (k, omega arith, is, before)
  | inr none ↦ elim (cases_Bool (p n)) [
    | inl here ↦ (n, omega arith, here, λ j l. any_below-none n p none j l)
    | inr out ↦ absurd (false≢true (rw (out, none) at h))
  ]
]

-- a walk from a to b of this length, of at most so many steps
goes : Graph → (ℕ → ℕ) → ℕ → ℕ → ℕ → ℕ → Bool
goes g len zero n a b = eqb n 0 && eqb a b
goes g len (suc k) n a b =
    (eqb n 0 && eqb a b) || any_below g.nodes
    (λ c. any_below g.edges (joins g a c) &&
    (leb (len (edge_between g a c)) n && goes g len k (n - len (edge_between g a c)) c b))

goes_sound : (g : Graph) (len : ℕ → ℕ) (k n a b : ℕ) → goes g len k n a b ≡ true →
    (w : List ℕ) × IsGraphWalk g a w b × (graph_walk_length g len a w ≡ n)
unfolding goes
goes_sound g len zero n a b h =
    let both = and_parts (eqb n 0) (eqb a b) h in
    ([], eqb-true a b both.1, sym (eqb-true n 0 both.0))
goes_sound g len (suc k) n a b h =
    elim (or_cases (eqb n 0 && eqb a b)
    (any_below g.nodes (λ c. any_below g.edges (joins g a c) &&
    (leb (len (edge_between g a c)) n && goes g len k (n - len (edge_between g a c)) c b))) h) [
      | inl here ↦ let both = and_parts (eqb n 0) (eqb a b) here in ([], eqb-true a b both.1, sym (eqb-true n 0 both.0))
      | inr over ↦
          let (c, c_in, all) =
          any_below-found g.nodes
          (λ c. any_below g.edges (joins g a c) &&
          (leb (len (edge_between g a c)) n && goes g len k (n - len (edge_between g a c)) c b)) over in
          let size = len (edge_between g a c) in
          let one = and_parts (any_below g.edges (joins g a c)) (leb size n && goes g len k (n - size) c b) all in
          let two = and_parts (leb size n) (goes g len k (n - size) c b) one.1 in
          let (w, walk, is) = goes_sound g len k (n - size) c b two.1 in
          let fits = leb-true size n two.0 in
          (c ∷ w, (any_below-found g.edges (joins g a c) one.0, walk), omega (arith, is, fits))
    ]

goes_complete : (g : Graph) (len : ℕ → ℕ) → IsGraph g → (k a : ℕ) (w : List ℕ) (b : ℕ) → IsGraphWalk g a w b → length w ≤ k →
    goes g len k (graph_walk_length g len a w) a b ≡ true
unfolding goes
goes_complete g len graph zero a [] b walk l = eq-eqb a b walk
goes_complete g len graph (suc k) a [] b walk l =
    or_left (eqb a b) (any_below g.nodes
    (λ c. any_below g.edges (joins g a c) &&
    (leb (len (edge_between g a c)) 0 && goes g len k (0 - len (edge_between g a c)) c b))) (eq-eqb a b walk)
goes_complete g len graph zero a (c ∷ w) b walk l = absurd (omega arith)
goes_complete g len graph (suc k) a (c ∷ w) b walk l =
    let size = len (edge_between g a c) in
    let rest = graph_walk_length g len c w in
    let later : goes g len k rest c b ≡ true = goes_complete g len graph k c w b walk.1 (omega arith) in
    let left : (size + rest) - size ≡ rest = omega arith in
    or_right (eqb (size + rest) 0 && eqb a b)
    (any_below g.nodes (λ x. any_below g.edges (joins g a x) &&
    (leb (len (edge_between g a x)) (size + rest) && goes g len k ((size + rest) - len (edge_between g a x)) x b)))
    (any_below-from g.nodes
    (λ x. any_below g.edges (joins g a x) &&
    (leb (len (edge_between g a x)) (size + rest) && goes g len k ((size + rest) - len (edge_between g a x)) x b)) c
    (joined_in g graph a c walk.0)
    (and_from (any_below g.edges (joins g a c)) (leb size (size + rest) && goes g len k ((size + rest) - size) c b)
    (any_below-from g.edges (joins g a c) walk.0.0 walk.0.1 walk.0.2)
    (and_from (leb size (size + rest)) (goes g len k ((size + rest) - size) c b)
    (le-leb size (size + rest) (omega arith)) (ap (λ n. goes g len k n c b) left ∙ later))))

steps_bound : (g : Graph) (len : ℕ → ℕ) → ((e : ℕ) → e < g.edges → 1 ≤ len e) → (a : ℕ) (w : List ℕ) (b : ℕ) →
    IsGraphWalk g a w b → length w ≤ graph_walk_length g len a w
steps_bound g len positive a [] b walk = omega arith
steps_bound g len positive a (c ∷ w) b walk =
    let one = positive (edge_between g a c) (edge_between_is g a c walk.0).0 in
    let rest = steps_bound g len positive c w b walk.1 in
    omega (arith, one, rest)

-- a walk from a to b that no walk from a to b is shorter than
pub record ShortestWalk (g : Graph) (len : ℕ → ℕ) (a b : ℕ) : Type 0 where
  pub walk : List ℕ
  pub is : IsGraphWalk g a walk b
  pub least : (w : List ℕ) → IsGraphWalk g a w b → graph_walk_length g len a walk ≤ graph_walk_length g len a w

pub shortest_walk : (g : Graph) (len : ℕ → ℕ) → IsGraph g → ((e : ℕ) → e < g.edges → 1 ≤ len e) →
    (a b : ℕ) (w : List ℕ) → IsGraphWalk g a w b → ShortestWalk g len a b
shortest_walk g len graph positive a b w walk =
    let limit = graph_walk_length g len a w in
    let reached : (v : List ℕ) → IsGraphWalk g a v b → graph_walk_length g len a v ≤ limit →
    goes g len limit (graph_walk_length g len a v) a b ≡ true = λ v on le.
    let steps = steps_bound g len positive a v b on in
    goes_complete g len graph limit a v b on (omega (arith, steps, le)) in
    let (n, l, is, before) =
    first_passing (limit + 1) (λ n. goes g len limit n a b)
    (any_below-from (limit + 1) (λ n. goes g len limit n a b) limit (omega arith) (reached w walk (omega arith))) in
    let (v, on, size) = goes_sound g len limit n a b is in
    record {
      walk = v;
      is = on;
      least = λ u step. elim (cases_lt (graph_walk_length g len a u) n) [
        | inl less ↦ absurd (false≢true
            (sym (before (graph_walk_length g len a u) less) ∙ reached u step (omega (arith, less, l))))
        | inr no_less ↦ omega (arith, size, no_less)
      ];
    }
