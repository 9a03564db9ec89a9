-- How long loops are, and their signatures.
use Rattle.std.proofs.Common.{◌≡◌, ℕ, ◌+◌, ◌<◌, ◌≤◌, Bool, true, false, ◌&&◌, eqb, refl, sym, ◌∙◌, ap, arith, eqb-true, eq-eqb, ne_eqb, inl, inr, ◌⊎◌, List, [], ◌∷◌, length, get_or}
use Rattle.surf_z2.proofs.Common.{cases_eq, cases_Bool, false≢true, xor, odd_below}
use Rattle.surf_graphs.specs.Graphs.{Graph, IsGraphWalk, joins, walk_chain, graph_walk_length, edge_between}
use Rattle.surf_graphs.specs.Trees.{Tree, in_tree, on_path, loop, IsShortest, graph_loop_length}
use Rattle.surf_graphs.specs.Cells.{Cells, primal, dual, IsCellComplex, Split, IsSplit, signature, chain_signature, IsHeaviest}
use Rattle.surf_z2.proofs.ParityLaws.{and_comm, and-false, xor-false, odd_below-same, odd_below-none, odd_below-xor-and, odd_below-at}
use Rattle.surf_graphs.proofs.Graphs.{edge_between_is}
use Rattle.surf_graphs.proofs.Trees.{one_of, path_inside}
use Rattle.surf_graphs.proofs.CellLaws.{left_once}

one_step : (rank : ℕ → ℕ) (x y a c n : ℕ) → ((x ≡ a) × (y ≡ c)) ⊎ ((x ≡ c) × (y ≡ a)) →
    (rank y ≤ rank x + n) × (rank x ≤ rank y + n) → (rank a ≤ n + rank c) × (rank c ≤ rank a + n)
    × (rank x + n + rank y ≡ rank a + n + rank c)
one_step rank x y a c n ends near = grind arith

-- a step along an edge changes the rank by no more than its length, and its loop goes through its ends
pub step_short : (g : Graph) (len : ℕ → ℕ) (t : Tree) → IsShortest g len t → (a c e : ℕ) → e < g.edges →
    joins g a c e ≡ true →
    (t.rank a ≤ len e + t.rank c) × (t.rank c ≤ t.rank a + len e)
    × (graph_loop_length g len t e ≡ t.rank a + len e + t.rank c)
step_short g len t short a c e l h = one_step t.rank (g.from e) (g.to e) a c (len e) (one_of g a c e h)
    (short.no_short_cut e l)

pub walk_reaches : (g : Graph) (len : ℕ → ℕ) (t : Tree) → IsShortest g len t → (a : ℕ) (w : List ℕ) (b : ℕ) →
    IsGraphWalk g a w b → t.rank a ≤ graph_walk_length g len a w + t.rank b
walk_reaches g len t short a [] b h = rw h (omega arith)
walk_reaches g len t short a (c ∷ w) b h =
    let step = edge_between_is g a c h.0 in
    let near = step_short g len t short a c (edge_between g a c) step.0 step.1 in
    let rest : t.rank c ≤ graph_walk_length g len c w + t.rank b = walk_reaches g len t short c w b h.1 in
    let first : t.rank a ≤ len (edge_between g a c) + t.rank c = near.0 in
    omega arith

-- no edge of a walk has a loop that is longer than the walk with the paths to its ends
pub loop_bound : (g : Graph) (len : ℕ → ℕ) (t : Tree) → IsShortest g len t → (a : ℕ) (w : List ℕ) (b e : ℕ) →
    IsGraphWalk g a w b → walk_chain g a w e ≡ true →
    graph_loop_length g len t e ≤ t.rank a + graph_walk_length g len a w + t.rank b
loop_bound g len t short a [] b e h on = absurd (false≢true on)
loop_bound g len t short a (c ∷ w) b e h on =
    let m = edge_between g a c in
    let step = edge_between_is g a c h.0 in
    let near = step_short g len t short a c m step.0 step.1 in
    elim (cases_eq m e) [
      | inl same ↦
          let rest : t.rank c ≤ graph_walk_length g len c w + t.rank b = walk_reaches g len t short c w b h.1 in
          let is : graph_loop_length g len t m ≡ t.rank a + len m + t.rank c = near.2 in
          rw (← same) (omega arith)
      | inr ne ↦
          let later : walk_chain g c w e ≡ true = rw (ne_eqb m e ne) at on in
          let rest : graph_loop_length g len t e ≤ t.rank c + graph_walk_length g len c w + t.rank b =
          loop_bound g len t short c w b e h.1 later in
          let second : t.rank c ≤ t.rank a + len m = near.1 in
          omega arith
    ]

-- no edge of a closed walk at the root has a loop that is longer than the walk
pub closed_bound : (g : Graph) (len : ℕ → ℕ) (t : Tree) → IsShortest g len t → (w : List ℕ) (e : ℕ) →
    IsGraphWalk g t.root w t.root → walk_chain g t.root w e ≡ true →
    graph_loop_length g len t e ≤ graph_walk_length g len t.root w
closed_bound g len t short w e h on =
    let at_root : t.rank t.root ≡ 0 = short.none_at_root in
    let bound : graph_loop_length g len t e ≤ t.rank t.root + graph_walk_length g len t.root w + t.rank t.root =
    loop_bound g len t short t.root w t.root e h on in
    omega arith

-- a path of the tree has no signature
path_zero : (s : Cells) (d : Split) → IsSplit s d → (n k : ℕ) → n < s.vertices →
    odd_below s.edges (λ e. on_path d.tree n e && signature s d e k) ≡ false
path_zero s d ok n k l = odd_below-none s.edges (λ e. on_path d.tree n e && signature s d e k)
    (λ e le. elim (cases_Bool (in_tree (primal s) d.tree e)) [
      | inl yes_t ↦ rw yes_t (and-false (on_path d.tree n e))
      | inr no_t ↦ rw (path_inside (primal s) d.tree ok.tree_is e no_t n l)
    ])

-- the signature of an edge's loop is the edge's
pub loop_signature : (s : Cells) (d : Split) → IsCellComplex s → IsSplit s d → (l k : ℕ) → l < s.edges →
    chain_signature s d (loop (primal s) d.tree l) k ≡ signature s d l k
loop_signature s d cells ok l k ll =
    let ends = cells.primal_ends l ll in
    odd_below-xor-and s.edges (λ e. eqb l e) (λ e. xor (on_path d.tree (s.tail l) e) (on_path d.tree (s.head l) e))
    (λ e. signature s d e k)
    ∙ rw (
      odd_below-at s.edges l (λ e. signature s d e k) ll,
      odd_below-xor-and s.edges (λ e. on_path d.tree (s.tail l) e) (λ e. on_path d.tree (s.head l) e)
          (λ e. signature s d e k),
      path_zero s d ok (s.tail l) k ends.0,
      path_zero s d ok (s.head l) k ends.1,
    )
    (xor-false (signature s d l k))

-- the signature of the j-th left edge is j alone
pub left_signature : (s : Cells) (d : Split) → IsSplit s d → (j k : ℕ) → j < length d.left → k < length d.left →
    signature s d (get_or d.left j 0) k ≡ eqb k j
left_signature s d ok j k lj lk = rw (ok.left_outside j lj, ok.left_outside_dual j lj) (elim (cases_eq k j) [
  | inl same ↦ rw same (eq-eqb _ _ refl ∙ sym (eq-eqb j j refl))
  | inr ne ↦ rw (ne_eqb (get_or d.left k 0) (get_or d.left j 0) (λ e. ne (left_once s d ok k j lk lj e)), ne_eqb k j ne)
])

-- a sum of left loops has the signature that lists them
pub sum_of_left : (s : Cells) (d : Split) → IsCellComplex s → IsSplit s d → (set : ℕ → Bool) (j : ℕ) →
    j < length d.left →
    odd_below (length d.left) (λ k. set k && chain_signature s d (loop (primal s) d.tree (get_or d.left k 0)) j) ≡ set j
sum_of_left s d cells ok set j lj =
    odd_below-same (length d.left) (λ k. set k && chain_signature s d (loop (primal s) d.tree (get_or d.left k 0)) j)
    (λ k. eqb j k && set k) (λ k lk.
    ap (λ x. set k && x)
    (loop_signature s d cells ok (get_or d.left k 0) j (ok.left_in k lk) ∙ left_signature s d ok k j lk lj) ∙ and_comm
    (set k) (eqb j k))
    ∙ odd_below-at (length d.left) j set lj

-- where an edge's signature has k, the k-th left loop is no longer than the edge's
pub shorter_left : (s : Cells) (len : ℕ → ℕ) (d : Split) → IsSplit s d → IsHeaviest s len d → (e k : ℕ) → e < s.edges →
    k < length d.left → signature s d e k ≡ true →
    graph_loop_length (primal s) len d.tree (get_or d.left k 0) ≤ graph_loop_length (primal s) len d.tree e
shorter_left s len d ok heavy e k l lk h = elim (cases_Bool (in_tree (primal s) d.tree e)) [
  | inl yes_t ↦ absurd (false≢true (rw yes_t at h))
  | inr no_t ↦ elim (cases_Bool (in_tree (dual s) d.cotree e)) [
    | inl yes_c ↦ heavy k e lk l yes_c (rw (no_t, yes_c) at h)
    | inr no_c ↦ let same : get_or d.left k 0 ≡ e = eqb-true (get_or d.left k 0) e (rw (no_t, no_c) at h) in
        rw same (omega arith)
  ]
]
