-- The loop of an edge is a closed walk.
use Rattle.surf_z2.proofs.Common.{◌≡◌, ℕ, zero, suc, ◌+◌, ◌<◌, ◌≤◌, Bool, true, false, ◌&&◌, ◌||◌, eqb, refl, ◌∙◌, ap, arith, ne_eqb, eq-eqb, inl, inr, List, [], ◌∷◌, ◌++◌, cases_eq, xor}
use Rattle.surf_graphs.specs.Graphs.{Graph, IsGraph, joins, IsGraphWalk, walk_chain, graph_walk_length, edge_between}
use Rattle.surf_graphs.specs.Trees.{Tree, IsTree, on_way, on_path, loop, IsShortest, graph_loop_length}
use Rattle.surf_graphs.specs.Loops.{IsSimple, way_down, way_up, graph_loop_walk}
use Rattle.surf_z2.proofs.ParityLaws.{xor-false, xor_comm, xor_left_comm}
use Rattle.surf_graphs.proofs.Graphs.{edge_between_is}
use Rattle.surf_graphs.proofs.Graphs.{walk-append}

pub or_swap : (a b : Bool) → (a || b) ≡ true → (b || a) ≡ true
or_swap true true h = refl
or_swap true false h = refl
or_swap false true h = refl
or_swap false false h = h

pub joins_turned : (g : Graph) (a b e : ℕ) → joins g a b e ≡ true → joins g b a e ≡ true
joins_turned g a b e h = or_swap (eqb (g.from e) a && eqb (g.to e) b) (eqb (g.from e) b && eqb (g.to e) a) h

pub joins_ends : (g : Graph) (e : ℕ) → joins g (g.from e) (g.to e) e ≡ true
joins_ends g e = rw (eq-eqb (g.from e) (g.from e) refl, eq-eqb (g.to e) (g.to e) refl)

-- what a walk is and runs
pub record Runs (g : Graph) (len : ℕ → ℕ) (a : ℕ) (w : List ℕ) (b : ℕ) (chain : ℕ → Bool) (size : ℕ) : Type 0 where
  pub walk : IsGraphWalk g a w b
  pub edges : (e : ℕ) → walk_chain g a w e ≡ chain e
  pub long : graph_walk_length g len a w ≡ size

runs_as : (g : Graph) (len : ℕ → ℕ) (a : ℕ) (w : List ℕ) (b : ℕ) (chain other : ℕ → Bool) (size total : ℕ) →
    Runs g len a w b chain size → ((e : ℕ) → chain e ≡ other e) → size ≡ total → Runs g len a w b other total
runs_as g len a w b chain other size total r same is =
    record { walk = r.walk; edges = λ e. r.edges e ∙ same e; long = r.long ∙ is }

pub runs-append : (g : Graph) (len : ℕ → ℕ) (a : ℕ) (u : List ℕ) (b : ℕ) (w : List ℕ) (c : ℕ) (first second : ℕ → Bool)
    (m n : ℕ) →
    Runs g len a u b first m → Runs g len b w c second n →
    Runs g len a (u ++ w) c (λ e. xor (first e) (second e)) (m + n)
runs-append g len a u b w c first second m n p q =
    let both = walk-append g len a u b w c p.walk q.walk in
    record { walk = both.0; edges = λ e. both.1 e ∙ rw (p.edges e, q.edges e); long = both.2 ∙ rw (p.long, q.long) }

pub runs_step : (g : Graph) (len : ℕ → ℕ) → IsSimple g → (a b m : ℕ) → m < g.edges → joins g a b m ≡ true →
    (w : List ℕ) (c : ℕ) (chain : ℕ → Bool) (n : ℕ) →
    Runs g len b w c chain n → Runs g len a (b ∷ w) c (λ e. xor (eqb m e) (chain e)) (len m + n)
runs_step g len simple a b m l h w c chain n r =
    let first = edge_between_is g a b (m, l, h) in
    let is : edge_between g a b ≡ m = simple a b (edge_between g a b) m first.0 l first.1 h in
    record { walk = ((m, l, h), r.walk); edges = λ e. rw (is, r.edges e); long = rw (is, r.long) }

runs_none : (g : Graph) (len : ℕ → ℕ) (a : ℕ) → Runs g len a [] a (λ e. false) 0
runs_none g len a = record { walk = refl; edges = λ e. refl; long = refl }

at_root : (g : Graph) (t : Tree) → IsTree g t → (n : ℕ) → n < g.nodes → t.rank n ≤ 0 → n ≡ t.root
at_root g t ok n l h = elim (cases_eq n t.root) [
  | inl same ↦ same
  | inr ne ↦ let fall : t.rank (t.parent n) < t.rank n = ok.rank_falls n l ne in absurd (omega arith)
]

walk_down : (g : Graph) (t : Tree) → IsTree g t → (k n : ℕ) → n < g.nodes → t.rank n ≤ k →
    IsGraphWalk g t.root (way_down t k n) n
walk_down g t ok zero n l h = rw (at_root g t ok n l h) refl
walk_down g t ok (suc k) n l h = elim (cases_eq n t.root) [
  | inl same ↦ rw (same, eq-eqb t.root t.root refl) refl
  | inr ne ↦
      let p = t.parent n in
      let m = t.up n in
      let fall : t.rank p < t.rank n = ok.rank_falls n l ne in
      let above = walk_down g t ok k p (ok.parent_in n l ne) (omega arith) in
      rw (ne_eqb n t.root ne)
      (walk-append g (λ e. 0) t.root (way_down t k p) p (n ∷ []) n above
      ((m, ok.up_in n l ne, joins_turned g n p m (ok.up_joins n l ne)), refl)).0
]

walk_up : (g : Graph) (t : Tree) → IsTree g t → (k n : ℕ) → n < g.nodes → t.rank n ≤ k →
    IsGraphWalk g n (way_up t k n) t.root
walk_up g t ok zero n l h = rw (at_root g t ok n l h) refl
walk_up g t ok (suc k) n l h = elim (cases_eq n t.root) [
  | inl same ↦ rw (same, eq-eqb t.root t.root refl) refl
  | inr ne ↦
      let p = t.parent n in
      let m = t.up n in
      let fall : t.rank p < t.rank n = ok.rank_falls n l ne in
      let above = walk_up g t ok k p (ok.parent_in n l ne) (omega arith) in
      rw (ne_eqb n t.root ne) ((m, ok.up_in n l ne, ok.up_joins n l ne), above)
]

-- in any tree the loop of an edge is a closed walk at the root
pub loop_closed : (g : Graph) (t : Tree) → IsGraph g → IsTree g t → (l : ℕ) → l < g.edges →
    IsGraphWalk g t.root (graph_loop_walk g t l) t.root
loop_closed g t graph ok l ll =
    let ends = graph l ll in
    let down = walk_down g t ok (t.rank (g.from l)) (g.from l) ends.0 (omega arith) in
    let up = walk_up g t ok (t.rank (g.to l)) (g.to l) ends.1 (omega arith) in
    (walk-append g (λ e. 0) t.root (way_down t (t.rank (g.from l)) (g.from l)) (g.from l)
    (g.to l ∷ way_up t (t.rank (g.to l)) (g.to l)) t.root down ((l, ll, joins_ends g l), up)).0

-- down the tree: the rank adds up to the length
pub runs_down : (g : Graph) (len : ℕ → ℕ) (t : Tree) → IsSimple g → IsTree g t → IsShortest g len t → (k n : ℕ) →
    n < g.nodes → t.rank n ≤ k → Runs g len t.root (way_down t k n) n (λ e. on_way t k n e) (t.rank n)
runs_down g len t simple ok short zero n l h = rw (at_root g t ok n l h, short.none_at_root) (runs_none g len t.root)
runs_down g len t simple ok short (suc k) n l h = elim (cases_eq n t.root) [
  | inl same ↦ rw (same, eq-eqb t.root t.root refl, short.none_at_root) (runs_none g len t.root)
  | inr ne ↦
      let p = t.parent n in
      let m = t.up n in
      let fall : t.rank p < t.rank n = ok.rank_falls n l ne in
      let above = runs_down g len t simple ok short k p (ok.parent_in n l ne) (omega arith) in
      let last = runs_step g len simple p n m (ok.up_in n l ne) (joins_turned g n p m (ok.up_joins n l ne)) [] n
      (λ e. false) 0 (runs_none g len n) in
      let adds : t.rank n ≡ t.rank p + len m = short.adds_up n l ne in
      rw (ne_eqb n t.root ne)
      (runs_as g len t.root (way_down t k p ++ (n ∷ [])) n (λ e. xor (on_way t k p e) (xor (eqb m e) false))
      (λ e. xor (eqb m e) (on_way t k p e)) (t.rank p + (len m + 0)) (t.rank n)
      (runs-append g len t.root (way_down t k p) p (n ∷ []) n (λ e. on_way t k p e) (λ e. xor (eqb m e) false)
      (t.rank p) (len m + 0) above last)
      (λ e. ap (xor (on_way t k p e)) (xor-false (eqb m e)) ∙ xor_comm (on_way t k p e) (eqb m e)) (omega arith))
]

pub runs_up : (g : Graph) (len : ℕ → ℕ) (t : Tree) → IsSimple g → IsTree g t → IsShortest g len t → (k n : ℕ) →
    n < g.nodes → t.rank n ≤ k → Runs g len n (way_up t k n) t.root (λ e. on_way t k n e) (t.rank n)
runs_up g len t simple ok short zero n l h = rw (at_root g t ok n l h, short.none_at_root) (runs_none g len t.root)
runs_up g len t simple ok short (suc k) n l h = elim (cases_eq n t.root) [
  | inl same ↦ rw (same, eq-eqb t.root t.root refl, short.none_at_root) (runs_none g len t.root)
  | inr ne ↦
      let p = t.parent n in
      let m = t.up n in
      let fall : t.rank p < t.rank n = ok.rank_falls n l ne in
      let above = runs_up g len t simple ok short k p (ok.parent_in n l ne) (omega arith) in
      let adds : t.rank n ≡ t.rank p + len m = short.adds_up n l ne in
      rw (ne_eqb n t.root ne)
      (runs_as g len n (p ∷ way_up t k p) t.root (λ e. xor (eqb m e) (on_way t k p e))
      (λ e. xor (eqb m e) (on_way t k p e)) (len m + t.rank p) (t.rank n)
      (runs_step g len simple n p m (ok.up_in n l ne) (ok.up_joins n l ne) (way_up t k p) t.root (λ e. on_way t k p e)
      (t.rank p) above)
      (λ e. refl) (omega arith))
]

-- the loop of an edge is a closed walk at the root, with the loop's edges and length
pub loop_runs : (g : Graph) (len : ℕ → ℕ) (t : Tree) → IsGraph g → IsSimple g → IsTree g t → IsShortest g len t →
    (l : ℕ) → l < g.edges →
    IsGraphWalk g t.root (graph_loop_walk g t l) t.root × ((e : ℕ) → walk_chain g t.root (graph_loop_walk g t l) e ≡ loop g t l e)
    × (graph_walk_length g len t.root (graph_loop_walk g t l) ≡ graph_loop_length g len t l)
loop_runs g len t graph simple ok short l ll =
    let u = g.from l in
    let v = g.to l in
    let ends = graph l ll in
    let down = runs_down g len t simple ok short (t.rank u) u ends.0 (omega arith) in
    let up = runs_up g len t simple ok short (t.rank v) v ends.1 (omega arith) in
    let over = runs_step g len simple u v l ll (joins_ends g l) (way_up t (t.rank v) v) t.root (λ e. on_path t v e)
    (t.rank v) up in
    let whole = runs-append g len t.root (way_down t (t.rank u) u) u (v ∷ way_up t (t.rank v) v) t.root
    (λ e. on_path t u e) (λ e. xor (eqb l e) (on_path t v e)) (t.rank u) (len l + t.rank v) down over in (
      whole.walk,
      (λ e. whole.edges e ∙ xor_left_comm (on_path t u e) (eqb l e) (on_path t v e)),
      whole.long ∙ omega arith,
    )

pub down_walk : (g : Graph) (len : ℕ → ℕ) (t : Tree) → IsSimple g → IsTree g t → IsShortest g len t → (n : ℕ) →
    n < g.nodes → (w : List ℕ) × IsGraphWalk g t.root w n × (graph_walk_length g len t.root w ≡ t.rank n)
down_walk g len t simple ok short n l =
    let down = runs_down g len t simple ok short (t.rank n) n l (omega arith) in
    (way_down t (t.rank n) n, down.walk, down.long)
