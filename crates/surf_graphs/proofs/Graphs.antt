-- Even chains and walks of a graph.
use Rattle.std.proofs.Common.{◌≡◌, ℕ, ◌+◌, ◌<◌, Bool, true, false, ◌&&◌, eqb, refl, sym, ◌∙◌, ap, eqb-true, inl, inr, List, [], ◌∷◌, ◌++◌, arith}
use Rattle.surf_z2.proofs.Common.{or_cases, and_parts, xor, odd_below}
use Rattle.surf_graphs.specs.Graphs.{Graph, IsGraph, leaves, graph_touches, IsEven, joins, IsJoined, edge_between, IsGraphWalk, walk_chain, graph_walk_length}
use Rattle.surf_z2.proofs.ParityLaws.{xor_meet, xor_comm, xor_assoc, xor-same, and_comm, and_assoc, and-false, odd_below-same, odd_below-none, odd_below-and, odd_below-xor-and, odd_below-swap, odd_below-at, least_below-found}

pub leaves_joined : (g : Graph) (set : ℕ → Bool) (a b e : ℕ) → joins g a b e ≡ true →
    leaves g set e ≡ xor (set a) (set b)
leaves_joined g set a b e h = elim (or_cases _ _ h) [
  | inl p ↦
      let q : (eqb (g.from e) a ≡ true) × (eqb (g.to e) b ≡ true) = and_parts _ _ p in
      rw (eqb-true _ _ q.0, eqb-true _ _ q.1)
  | inr p ↦
      let q : (eqb (g.from e) b ≡ true) × (eqb (g.to e) a ≡ true) = and_parts _ _ p in
      rw (eqb-true _ _ q.0, eqb-true _ _ q.1) (xor_comm (set b) (set a))
]

-- whether an edge leaves a set, summed over the set's nodes
leaves_sum : (g : Graph) → IsGraph g → (set : ℕ → Bool) (e : ℕ) → e < g.edges →
    leaves g set e ≡ odd_below g.nodes (λ n. set n && graph_touches g n e)
leaves_sum g ok set e l =
    let one : odd_below g.nodes (λ n. eqb (g.from e) n && set n) ≡ set (g.from e) =
    odd_below-at g.nodes (g.from e) set (ok e l).0 in
    let two : odd_below g.nodes (λ n. eqb (g.to e) n && set n) ≡ set (g.to e) =
    odd_below-at g.nodes (g.to e) set (ok e l).1 in
    sym (odd_below-same g.nodes (λ n. set n && graph_touches g n e) (λ n. graph_touches g n e && set n)
    (λ n h. and_comm (set n) (graph_touches g n e))
    ∙ (odd_below-xor-and g.nodes (λ n. eqb (g.from e) n) (λ n. eqb (g.to e) n) set ∙ rw (one, two)))

swap3 : (a b c : Bool) → (a && (b && c)) ≡ (b && (a && c))
swap3 a b c = sym (and_assoc a b c) ∙ (ap (λ x. x && c) (and_comm a b) ∙ and_assoc b a c)

-- summing over the edges of a chain that leave a set is summing over the set's nodes
pub by_nodes : (g : Graph) → IsGraph g → (chain set : ℕ → Bool) →
    odd_below g.edges (λ e. chain e && leaves g set e)
    ≡ odd_below g.nodes (λ n. set n && odd_below g.edges (λ e. chain e && graph_touches g n e))
by_nodes g ok chain set =
    odd_below-same g.edges (λ e. chain e && leaves g set e)
    (λ e. odd_below g.nodes (λ n. set n && (chain e && graph_touches g n e))) (λ e l.
    ap (λ x. chain e && x) (leaves_sum g ok set e l)
    ∙ (sym (odd_below-and g.nodes (chain e) (λ n. set n && graph_touches g n e))
    ∙ odd_below-same g.nodes (λ n. chain e && (set n && graph_touches g n e)) (λ n. set n && (chain e && graph_touches g n e))
    (λ n h. swap3 (chain e) (set n) (graph_touches g n e))))
    ∙ (odd_below-swap g.edges g.nodes (λ e n. set n && (chain e && graph_touches g n e))
    ∙ odd_below-same g.nodes (λ n. odd_below g.edges (λ e. set n && (chain e && graph_touches g n e)))
    (λ n. set n && odd_below g.edges (λ e. chain e && graph_touches g n e)) (λ n h.
    odd_below-and g.edges (set n) (λ e. chain e && graph_touches g n e)))

-- an even chain leaves each set an even number of times
pub even_leaves : (g : Graph) → IsGraph g → (chain set : ℕ → Bool) → IsEven g chain →
    odd_below g.edges (λ e. chain e && leaves g set e) ≡ false
even_leaves g ok chain set even =
    by_nodes g ok chain set
    ∙ odd_below-none g.nodes (λ n. set n && odd_below g.edges (λ e. chain e && graph_touches g n e))
    (λ n l. rw (even n l) (and-false (set n)))

pub even-xor : (g : Graph) (c d : ℕ → Bool) → IsEven g c → IsEven g d → IsEven g (λ e. xor (c e) (d e))
even-xor g c d hc hd n l = odd_below-xor-and g.edges c d (λ e. graph_touches g n e) ∙ rw (hc n l, hd n l)

pub even_same : (g : Graph) (c d : ℕ → Bool) → ((e : ℕ) → e < g.edges → c e ≡ d e) → IsEven g d → IsEven g c
even_same g c d h hd n l = odd_below-same g.edges (λ e. c e && graph_touches g n e) (λ e. d e && graph_touches g n e)
    (λ e le. rw (h e le)) ∙ hd n l

pub edge_between_is : (g : Graph) (a b : ℕ) → IsJoined g a b →
    (edge_between g a b < g.edges) × (joins g a b (edge_between g a b) ≡ true)
edge_between_is g a b (e, l, h) = least_below-found g.edges (joins g a b) e l h

-- how often a walk leaves a set: by its two ends
pub walk_leaves : (g : Graph) (set : ℕ → Bool) (a : ℕ) (w : List ℕ) (b : ℕ) → IsGraphWalk g a w b →
    odd_below g.edges (λ e. walk_chain g a w e && leaves g set e) ≡ xor (set a) (set b)
walk_leaves g set a [] b h = odd_below-none g.edges (λ e. false) (λ e l. refl) ∙ rw h (sym (xor-same (set b)))
walk_leaves g set a (c ∷ w) b h =
    let step = edge_between_is g a c h.0 in
    let here : odd_below g.edges (λ e. eqb (edge_between g a c) e && leaves g set e) ≡ xor (set a) (set c) =
    odd_below-at g.edges (edge_between g a c) (leaves g set) step.0 ∙ leaves_joined g set a c
    (edge_between g a c) step.1 in
    let rest : odd_below g.edges (λ e. walk_chain g c w e && leaves g set e) ≡ xor (set c) (set b) =
    walk_leaves g set c w b h.1 in
    odd_below-xor-and g.edges (λ e. eqb (edge_between g a c) e) (walk_chain g c w) (leaves g set) ∙ rw (here, rest)
    (xor_meet (set a) (set c) (set b))

-- a closed walk is an even chain
pub walk_even : (g : Graph) (a : ℕ) (w : List ℕ) → IsGraphWalk g a w a → IsEven g (walk_chain g a w)
walk_even g a w h n l = walk_leaves g (λ m. eqb m n) a w a h ∙ xor-same (eqb a n)

-- a walk and one that goes on from its end
pub walk-append : (g : Graph) (len : ℕ → ℕ) (a : ℕ) (u : List ℕ) (b : ℕ) (w : List ℕ) (c : ℕ) → IsGraphWalk g a u b →
    IsGraphWalk g b w c →
    IsGraphWalk g a (u ++ w) c × ((e : ℕ) → walk_chain g a (u ++ w) e ≡ xor (walk_chain g a u e) (walk_chain g b w e))
    × (graph_walk_length g len a (u ++ w) ≡ graph_walk_length g len a u + graph_walk_length g len b w)
walk-append g len a [] b w c hu hw = (rw hu hw, (λ e. rw hu), rw hu (omega arith))
walk-append g len a (x ∷ u) b w c hu hw =
    let rest = walk-append g len x u b w c hu.1 hw in
    let sums : graph_walk_length g len x (u ++ w) ≡ graph_walk_length g len x u + graph_walk_length g len b w = rest.2 in (
      (hu.0, rest.0),
      (λ e. rw (rest.1 e)
          (sym (xor_assoc (eqb (edge_between g a x) e) (walk_chain g x u e) (walk_chain g b w e)))),
      omega arith,
    )
