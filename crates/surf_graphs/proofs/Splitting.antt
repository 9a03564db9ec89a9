-- A closed walk in two, and an edge whose loop is no longer.
use Rattle.std.proofs.Common.{◌≡◌, ◌≢◌, ℕ, ◌+◌, ◌<◌, ◌≤◌, Bool, true, false, not, ◌&&◌, eqb, refl, sym, ◌∙◌, ap, arith, inl, inr, ◌⊎◌, subst, List, [], ◌∷◌, ◌++◌, length, length-append}
use Rattle.std.proofs.lemmas.Bool.{cases_eq, cases_lt, cases_Bool, and_parts, false≢true, true≢false, eqb-true, eqb-false, not-true}
use Rattle.surf_z2.proofs.Common.{xor, any_below, numbers}
use Rattle.surf_graphs.specs.Graphs.{Graph, joins, IsGraphWalk, walk_chain, graph_walk_length, edge_between}
use Rattle.surf_graphs.specs.Trees.{Tree, loop, IsShortest, graph_loop_length}
use Rattle.surf_graphs.specs.Cells.{Cells, primal, IsCellComplex, IsNullChain, Split, IsSplit}
use Rattle.surf_graphs.specs.Cycles.{IsOff, IsDistinct, IsSimpleGraphCycle, TwoWalks}
use Rattle.surf_graphs.specs.Loops.{IsSimple}
use Rattle.surf_z2.proofs.ParityLaws.{xors, any_below-found, any_below-none}
use Rattle.surf_graphs.proofs.Graphs.{edge_between_is, walk_even}
use Rattle.surf_graphs.proofs.Trees.{one_of}
use Rattle.surf_graphs.proofs.Lengths.{loop_bound}
use Rattle.surf_z2.proofs.Linear.{over_in}
use Rattle.surf_graphs.specs.Independence.{signature_of}
use Rattle.surf_graphs.proofs.Independence.{null_zero, zero_null, walk_sums}
use Rattle.surf_graphs.proofs.Graphs.{walk-append}
use Rattle.surf_graphs.proofs.Loops.{joins_turned}

-- a closed walk that is not null has an edge whose loop is not null, and is no longer
pub nonnull_loop : (s : Cells) (len : ℕ → ℕ) (d : Split) → IsCellComplex s → IsSplit s d → (t : Tree) →
    IsShortest (primal s) len t → (a : ℕ) → t.rank a ≡ 0 →
    (w : List ℕ) → IsGraphWalk (primal s) a w a → (IsNullChain s (walk_chain (primal s) a w) → ⊥) →
    (e : ℕ) × (e < s.edges) × (graph_loop_length (primal s) len t e ≤ graph_walk_length (primal s) len a w)
    × (IsNullChain s (loop (primal s) t e) → ⊥)
nonnull_loop s len d cells ok t short a at_base w walk some =
    let c = walk_chain (primal s) a w in
    let sign : ℕ → ℕ = λ e. signature_of s d (loop (primal s) t e) in
    let test : ℕ → Bool = λ e. c e && not (eqb (sign e) 0) in
    elim (cases_Bool (any_below s.edges test)) [
      | inl yes_e ↦
          let (e, le, on) = any_below-found s.edges test yes_e in
          let both : (c e ≡ true) × (not (eqb (sign e) 0) ≡ true) = and_parts (c e) (not (eqb (sign e) 0)) on in
          let bound : graph_loop_length (primal s) len t e ≤ t.rank a + graph_walk_length (primal s) len a w + t.rank a =
          loop_bound (primal s) len t short a w a e walk both.0 in (
            e,
            le,
            omega arith,
            λ null. eqb-false (sign e) 0 (not-true (eqb (sign e) 0) both.1)
                (null_zero s d cells ok (loop (primal s) t e) null),
          )
      | inr none ↦ absurd (some
          (zero_null s d cells ok c (walk_even (primal s) a w walk)
          (walk_sums s d cells t a w walk ∙ over_in numbers [] s.edges c sign (λ l ll on.
          let out : not (eqb (sign l) 0) ≡ false = rw on at (any_below-none s.edges test none l ll) in
          elim (cases_Bool (eqb (sign l) 0)) [
            | inl yes_zero ↦ eqb-true (sign l) 0 yes_zero
            | inr not_zero ↦ absurd (true≢false (rw not_zero at out))
          ]))))
    ]

-- a walk in two parts
pub walk_parts : (g : Graph) (a : ℕ) (u w : List ℕ) (c : ℕ) → IsGraphWalk g a (u ++ w) c →
    (b : ℕ) × IsGraphWalk g a u b × IsGraphWalk g b w c
walk_parts g a [] w c h = (a, refl, h)
walk_parts g a (x ∷ u) w c h = let (b, p, q) = walk_parts g x u w c h.1 in (b, (h.0, p), q)

-- a node stands in the list, or not
find_node : (n : ℕ) (w : List ℕ) → IsOff n w ⊎ ((u : List ℕ) × (t : List ℕ) × (w ≡ u ++ (n ∷ t)))
find_node n [] = inl tt
find_node n (m ∷ w) = elim (cases_eq n m) [
  | inl same ↦ inr ([], w, rw same)
  | inr ne ↦ elim (find_node n w) [
    | inl off ↦ inl (ne, off)
    | inr found ↦ inr (m ∷ found.0, found.1, ap (λ x. m ∷ x) found.2)
  ]
]

-- a list has nothing twice, or something that stands twice
find_twice : (w : List ℕ) →
    IsDistinct w ⊎ ((n : ℕ) × (u : List ℕ) × (v : List ℕ) × (t : List ℕ) × (w ≡ u ++ (n ∷ (v ++ (n ∷ t)))))
find_twice [] = inl tt
find_twice (m ∷ w) = elim (find_node m w) [
  | inr found ↦ inr (m, [], found.0, found.1, ap (λ x. m ∷ x) found.2)
  | inl off ↦ elim (find_twice w) [
    | inl apart ↦ inl (off, apart)
    | inr twice ↦ inr (twice.0, m ∷ twice.1, twice.2, twice.3, ap (λ x. m ∷ x) twice.4)
  ]
]

regroup : (u b v c t : Bool) → xor u (xor b (xor v (xor c t))) ≡ xor (xor u (xor b t)) (xor v (xor c false))
regroup u b v c t = simp xors

two_walks : (g : Graph) (a n : ℕ) (u v t : List ℕ) → IsGraphWalk g a (u ++ (n ∷ (v ++ (n ∷ t)))) a →
    TwoWalks g a (u ++ (n ∷ (v ++ (n ∷ t))))
two_walks g a n u v t walk =
    let (b, p, q) = walk_parts g a u (n ∷ (v ++ (n ∷ t))) a walk in
    let (c, p2, q2) = walk_parts g n v (n ∷ t) a q.1 in
    let none : ℕ → ℕ = λ e. 0 in
    let whole = λ (len : ℕ → ℕ). walk-append g len a u b (n ∷ (v ++ (n ∷ t))) a p q in
    let inner = λ (len : ℕ → ℕ). walk-append g len n v c (n ∷ t) a p2 q2 in
    let out = λ (len : ℕ → ℕ). walk-append g len a u b (n ∷ t) a p (q.0, q2.1) in
    let back = λ (len : ℕ → ℕ). walk-append g len n v c (n ∷ []) n p2 (q2.0, refl) in
    record {
      first = u ++ (n ∷ t);
      first_walk = (out none).0;
      first_some = rw (length-append u (n ∷ t)) (omega arith);
      base = n;
      second = v ++ (n ∷ []);
      second_walk = (back none).0;
      second_some = rw (length-append v (n ∷ [])) (omega arith);
      edges = λ e. (whole none).1 e ∙ (rw ((inner none).1 e, (out none).1 e, (back none).1 e)
          (regroup (walk_chain g a u e) (eqb (edge_between g b n) e) (walk_chain g n v e) (eqb (edge_between g c n) e)
          (walk_chain g n t e)));
      long = λ len.
          let one : graph_walk_length g len a (u ++ (n ∷ (v ++ (n ∷ t))))
          ≡ graph_walk_length g len a u + (len (edge_between g b n) + graph_walk_length g len n (v ++ (n ∷ t))) = (whole len).2 in
          let two : graph_walk_length g len n (v ++ (n ∷ t))
          ≡ graph_walk_length g len n v + (len (edge_between g c n) + graph_walk_length g len n t) = (inner len).2 in
          let three : graph_walk_length g len a (u ++ (n ∷ t))
          ≡ graph_walk_length g len a u + (len (edge_between g b n) + graph_walk_length g len n t) = (out len).2 in
          let four : graph_walk_length g len n (v ++ (n ∷ [])) ≡ graph_walk_length g len n v + (len (edge_between g c n) + 0) =
          (back len).2 in
          omega arith;
    }

pub distinct_or_two : (g : Graph) (a : ℕ) (w : List ℕ) → IsGraphWalk g a w a → IsDistinct w ⊎ TwoWalks g a w
distinct_or_two g a w walk = elim (find_twice w) [
  | inl apart ↦ inl apart
  | inr (n, u, v, t, is) ↦ inr (rw is (two_walks g a n u v t (rw is at walk)))
]

-- a closed walk of less than three steps runs no edge an odd number of times
short_empty : (g : Graph) → IsSimple g → ((e : ℕ) → e < g.edges → g.from e ≢ g.to e) → (a : ℕ) (w : List ℕ) →
    IsGraphWalk g a w a → length w < 3 → (e : ℕ) → walk_chain g a w e ≡ false
short_empty g simple ends a [] walk l e = refl
short_empty g simple ends a (c ∷ []) walk l e =
    let step = edge_between_is g a c walk.0 in
    absurd (ends (edge_between g a c) step.0
    (elim (one_of g a c (edge_between g a c) step.1) [
      | inl p ↦ p.0 ∙ (sym walk.1 ∙ sym p.1)
      | inr p ↦ p.0 ∙ (walk.1 ∙ sym p.1)
    ]))
short_empty g simple ends a (c ∷ (x ∷ [])) walk l e =
    let one = edge_between_is g a c walk.0 in
    let two = edge_between_is g c x walk.1.0 in
    let back : joins g c a (edge_between g c x) ≡ true =
    subst (λ z. joins g c z (edge_between g c x) ≡ true) walk.1.1 two.1 in
    let same : edge_between g a c ≡ edge_between g c x =
    simple a c (edge_between g a c) (edge_between g c x) one.0 two.0 one.1
    (joins_turned g c a (edge_between g c x) back) in
    rw same (twice (eqb (edge_between g c x) e))
  where
    twice : (b : Bool) → xor b (xor b false) ≡ false
    twice b = simp xors
short_empty g simple ends a (c ∷ (x ∷ (y ∷ w))) walk l e = absurd (omega arith)

-- a closed walk that runs some edge an odd number of times is a simple cycle, or the sum of two that are not empty
pub simple_or_two : (g : Graph) → IsSimple g → ((e : ℕ) → e < g.edges → g.from e ≢ g.to e) → (a : ℕ) (w : List ℕ) →
    IsGraphWalk g a w a → (e : ℕ) → walk_chain g a w e ≡ true → IsSimpleGraphCycle g a w ⊎ TwoWalks g a w
simple_or_two g simple ends a w walk e on = elim (distinct_or_two g a w walk) [
  | inr two ↦ inr two
  | inl apart ↦ elim (cases_lt (length w) 3) [
    | inl few ↦ absurd (false≢true (sym (short_empty g simple ends a w walk few e) ∙ on))
    | inr enough ↦ inl (walk, enough, apart)
  ]
]
