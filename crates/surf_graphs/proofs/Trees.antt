-- Paths and loops of a tree.
use Rattle.std.proofs.Common.{◌≡◌, ◌≢◌, ℕ, zero, suc, ◌<◌, ◌≤◌, Bool, true, false, not, ◌&&◌, eqb, refl, sym, ◌∙◌, ap, arith, eqb-true, eq-eqb, ne_eqb, inl, inr, subst, ◌⊎◌}
use Rattle.surf_z2.proofs.Common.{or_cases, and_parts, cases_eq, cases_Bool, false≢true, not-true, eqb-false, xor, odd_below}
use Rattle.surf_graphs.specs.Graphs.{Graph, IsGraph, leaves, IsEven, joins, IsJoined}
use Rattle.surf_graphs.specs.Trees.{Tree, IsTree, in_tree, on_way, on_path, loop}
use Rattle.surf_z2.proofs.ParityLaws.{eqb_comm, xor_back, xor_meet, and-true, xor-false, xor-same, and_comm, and-false, odd_below-same, odd_below-none, odd_below-and-xor, odd_below-at, any_below-found, any_below-from}
use Rattle.surf_graphs.proofs.Graphs.{leaves_joined, even_leaves}

-- the node whose edge up it is
pub tree_edge : (g : Graph) (t : Tree) (e : ℕ) → in_tree g t e ≡ true → (n : ℕ) × (n < g.nodes) × (n ≢ t.root)
    × (t.up n ≡ e)
tree_edge g t e h =
    let (n, l, q) = any_below-found g.nodes (λ m. not (eqb m t.root) && eqb (t.up m) e) h in
    let parts : (not (eqb n t.root) ≡ true) × (eqb (t.up n) e ≡ true) = and_parts _ _ q in
    (n, l, eqb-false n t.root (not-true (eqb n t.root) parts.0), eqb-true (t.up n) e parts.1)

pub up_in_tree : (g : Graph) (t : Tree) (n : ℕ) → n < g.nodes → n ≢ t.root → in_tree g t (t.up n) ≡ true
up_in_tree g t n l ne = any_below-from g.nodes (λ m. not (eqb m t.root) && eqb (t.up m) (t.up n)) n l
    (rw (ne_eqb n t.root ne, eq-eqb (t.up n) (t.up n) refl))

way_root : (t : Tree) (k e : ℕ) → on_way t k t.root e ≡ false
way_root t zero e = refl
way_root t (suc k) e = rw (eq-eqb t.root t.root refl)

-- more steps than the rank change nothing
way_enough : (g : Graph) (t : Tree) → IsTree g t → (k j n e : ℕ) → n < g.nodes → t.rank n ≤ k → t.rank n ≤ j →
    on_way t k n e ≡ on_way t j n e
way_enough g t ok zero zero n e l hk hj = refl
way_enough g t ok zero (suc j) n e l hk hj = elim (cases_eq n t.root) [
  | inl same ↦ rw same (sym (way_root t (suc j) e))
  | inr ne ↦ let fall : t.rank (t.parent n) < t.rank n = ok.rank_falls n l ne in absurd (omega arith)
]
way_enough g t ok (suc k) zero n e l hk hj = elim (cases_eq n t.root) [
  | inl same ↦ rw same (way_root t (suc k) e)
  | inr ne ↦ let fall : t.rank (t.parent n) < t.rank n = ok.rank_falls n l ne in absurd (omega arith)
]
way_enough g t ok (suc k) (suc j) n e l hk hj = elim (cases_eq n t.root) [
  | inl same ↦ rw same (way_root t (suc k) e ∙ sym (way_root t (suc j) e))
  | inr ne ↦
      let fall : t.rank (t.parent n) < t.rank n = ok.rank_falls n l ne in
      rw (ne_eqb n t.root ne, way_enough g t ok k j (t.parent n) e (ok.parent_in n l ne) (omega arith) (omega arith))
]

pub path_root : (t : Tree) (e : ℕ) → on_path t t.root e ≡ false
path_root t e = way_root t (t.rank t.root) e

pub path_step : (g : Graph) (t : Tree) → IsTree g t → (n e : ℕ) → n < g.nodes → n ≢ t.root →
    on_path t n e ≡ xor (eqb (t.up n) e) (on_path t (t.parent n) e)
path_step g t ok n e l ne =
    let fall : t.rank (t.parent n) < t.rank n = ok.rank_falls n l ne in
    way_enough g t ok (t.rank n) (suc (t.rank n)) n e l (omega arith) (omega arith)
    ∙ rw (
      ne_eqb n t.root ne,
      way_enough g t ok (t.rank n) (t.rank (t.parent n)) (t.parent n) e (ok.parent_in n l ne)
          (omega arith) (omega arith),
    )

pub one_of : (g : Graph) (a b e : ℕ) → joins g a b e ≡ true →
    ((g.from e ≡ a) × (g.to e ≡ b)) ⊎ ((g.from e ≡ b) × (g.to e ≡ a))
one_of g a b e h = elim (or_cases _ _ h) [
  | inl p ↦
      let q : (eqb (g.from e) a ≡ true) × (eqb (g.to e) b ≡ true) = and_parts _ _ p in
      inl (eqb-true _ _ q.0, eqb-true _ _ q.1)
  | inr p ↦
      let q : (eqb (g.from e) b ≡ true) × (eqb (g.to e) a ≡ true) = and_parts _ _ p in
      inr (eqb-true _ _ q.0, eqb-true _ _ q.1)
]

-- the ends of a step are nodes
pub joined_below : (g : Graph) → IsGraph g → (a c : ℕ) → IsJoined g a c → a < g.nodes
joined_below g graph a c (e, l, on) =
    let ends = graph e l in
    elim (one_of g a c e on) [
      | inl same ↦ subst (λ n. n < g.nodes) same.0 ends.0
      | inr same ↦ subst (λ n. n < g.nodes) same.1 ends.1
    ]

pub joined_in : (g : Graph) → IsGraph g → (a c : ℕ) → IsJoined g a c → c < g.nodes
joined_in g graph a c (e, l, on) =
    let ends = graph e l in
    elim (one_of g a c e on) [
      | inl same ↦ subst (λ n. n < g.nodes) same.1 ends.1
      | inr same ↦ subst (λ n. n < g.nodes) same.0 ends.0
    ]

meet_once : (rank : ℕ → ℕ) (x y n p m q : ℕ) → rank p < rank n → rank q < rank m →
    ((x ≡ n) × (y ≡ p)) ⊎ ((x ≡ p) × (y ≡ n)) → ((x ≡ m) × (y ≡ q)) ⊎ ((x ≡ q) × (y ≡ m)) → n ≡ m
meet_once rank x y n p m q hn hm one two = grind arith

-- an edge leads up from one node only
pub up_once : (g : Graph) (t : Tree) → IsTree g t → (n m : ℕ) → n < g.nodes → n ≢ t.root → m < g.nodes → m ≢ t.root →
    t.up n ≡ t.up m → n ≡ m
up_once g t ok n m ln nn lm nm same =
    let join_m : joins g m (t.parent m) (t.up n) ≡ true = rw same (ok.up_joins m lm nm) in
    meet_once t.rank (g.from (t.up n)) (g.to (t.up n)) n (t.parent n) m (t.parent m) (ok.rank_falls n ln nn)
    (ok.rank_falls m lm nm)
    (one_of g n (t.parent n) (t.up n) (ok.up_joins n ln nn)) (one_of g m (t.parent m) (t.up n) join_m)

-- an edge of the tree is the only one of the tree's edges that leaves the set of nodes with it on their path
pub leaves_path : (g : Graph) (t : Tree) → IsTree g t → (n e : ℕ) → n < g.nodes → n ≢ t.root →
    leaves g (λ m. on_path t m e) (t.up n) ≡ eqb (t.up n) e
leaves_path g t ok n e l ne =
    leaves_joined g (λ m. on_path t m e) n (t.parent n) (t.up n) (ok.up_joins n l ne)
    ∙ rw (path_step g t ok n e l ne) (xor_back (eqb (t.up n) e) (on_path t (t.parent n) e))

-- an even chain inside a tree is empty
pub empty_inside : (g : Graph) (t : Tree) → IsGraph g → IsTree g t → (chain : ℕ → Bool) → IsEven g chain →
    ((e : ℕ) → e < g.edges → chain e ≡ true → in_tree g t e ≡ true) → (e : ℕ) → e < g.edges → chain e ≡ false
empty_inside g t graph ok chain even inside e l =
    let leaving : odd_below g.edges (λ x. chain x && leaves g (λ m. on_path t m e) x) ≡ false =
    even_leaves g graph chain (λ m. on_path t m e) even in
    let same : odd_below g.edges (λ x. chain x && leaves g (λ m. on_path t m e) x)
    ≡ odd_below g.edges (λ x. eqb e x && chain x) =
    odd_below-same g.edges (λ x. chain x && leaves g (λ m. on_path t m e) x) (λ x. eqb e x && chain x) (λ x lx.
    elim (cases_Bool (chain x)) [
      | inl yes_x ↦
          let (n, ln, ne, is) = tree_edge g t x (inside x lx yes_x) in
          let only : leaves g (λ m. on_path t m e) x ≡ eqb x e = rw is at (leaves_path g t ok n e ln ne) in
          rw (yes_x, only) (eqb_comm x e ∙ sym (and-true (eqb e x)))
      | inr no_x ↦ rw no_x (sym (and-false (eqb e x)))
    ]) in
    sym (odd_below-at g.edges e chain l) ∙ (sym same ∙ leaving)

-- the sum of a weight along the path to a node
unfoldable pub along : Graph → Tree → (ℕ → Bool) → ℕ → Bool
along g t w n = odd_below g.edges (λ e. w e && on_path t n e)

pub along_is : (g : Graph) (t : Tree) (w : ℕ → Bool) (n : ℕ) →
    along g t w n ≡ odd_below g.edges (λ e. w e && on_path t n e)
unfolding along
along_is g t w n = refl

pub along_root : (g : Graph) (t : Tree) (w : ℕ → Bool) → along g t w t.root ≡ false
unfolding along
along_root g t w = odd_below-none g.edges (λ e. w e && on_path t t.root e) (λ e l. rw (path_root t e) (and-false (w e)))

pub along_step : (g : Graph) (t : Tree) → IsTree g t → (w : ℕ → Bool) (n : ℕ) → n < g.nodes → n ≢ t.root →
    along g t w n ≡ xor (w (t.up n)) (along g t w (t.parent n))
unfolding along
along_step g t ok w n l ne =
    odd_below-same g.edges (λ e. w e && on_path t n e) (λ e. w e && xor (eqb (t.up n) e) (on_path t (t.parent n) e))
    (λ e le. ap (λ x. w e && x) (path_step g t ok n e l ne))
    ∙ (odd_below-and-xor g.edges w (λ e. eqb (t.up n) e) (on_path t (t.parent n))
    ∙ ap (λ x. xor x (odd_below g.edges (λ e. w e && on_path t (t.parent n) e)))
    (odd_below-same g.edges (λ e. w e && eqb (t.up n) e) (λ e. eqb (t.up n) e && w e)
    (λ e le. and_comm (w e) (eqb (t.up n) e))
    ∙ odd_below-at g.edges (t.up n) w (ok.up_in n l ne)))

pub along_same : (g : Graph) (t : Tree) (w v : ℕ → Bool) → ((e : ℕ) → e < g.edges → w e ≡ v e) → (n : ℕ) →
    along g t w n ≡ along g t v n
unfolding along
along_same g t w v h n = odd_below-same g.edges (λ e. w e && on_path t n e) (λ e. v e && on_path t n e)
    (λ e l. rw (h e l))

-- what holds of the root and of each node whose parent has it, holds of all nodes
pub down_tree : (g : Graph) (t : Tree) → IsTree g t → (P : ℕ → Type 0) → P t.root →
    ((n : ℕ) → n < g.nodes → n ≢ t.root → P (t.parent n) → P n) → (n : ℕ) → n < g.nodes → P n
down_tree g t ok P base step n l = go (suc (t.rank n)) n l (omega arith)
  where
    go : (k : ℕ) (m : ℕ) → m < g.nodes → t.rank m < k → P m
    go zero m lm h = absurd (omega arith)
    go (suc k) m lm h = elim (cases_eq m t.root) [
      | inl same ↦ subst P (sym same) base
      | inr ne ↦
          let fall : t.rank (t.parent m) < t.rank m = ok.rank_falls m lm ne in
          step m lm ne (go k (t.parent m) (ok.parent_in m lm ne) (omega arith))
    ]

-- a path leaves a set by its two ends
pub path_leaves : (g : Graph) (t : Tree) → IsTree g t → (set : ℕ → Bool) (n : ℕ) → n < g.nodes →
    along g t (leaves g set) n ≡ xor (set n) (set t.root)
path_leaves g t ok set =
    down_tree g t ok (λ n. along g t (leaves g set) n ≡ xor (set n) (set t.root))
    (along_root g t (leaves g set) ∙ sym (xor-same (set t.root)))
    (λ n l ne above. along_step g t ok (leaves g set) n l ne ∙ rw
    (above, leaves_joined g set n (t.parent n) (t.up n) (ok.up_joins n l ne))
    (xor_meet (set n) (set (t.parent n)) (set t.root)))

-- a path stays in its tree
pub path_inside : (g : Graph) (t : Tree) → IsTree g t → (e : ℕ) → in_tree g t e ≡ false → (n : ℕ) → n < g.nodes →
    on_path t n e ≡ false
path_inside g t ok e out =
    down_tree g t ok (λ n. on_path t n e ≡ false) (path_root t e) (λ n l ne above.
    let differ : t.up n ≢ e = λ same. false≢true (sym out ∙ rw same at (up_in_tree g t n l ne)) in
    path_step g t ok n e l ne ∙ rw (ne_eqb (t.up n) e differ, above))

-- where a weight is even on each closed walk, its sums along the paths differ over an edge by the weight
pub along_leaves : (g : Graph) (t : Tree) → IsTree g t → (w : ℕ → Bool) (n : ℕ) → n < g.nodes → n ≢ t.root →
    leaves g (along g t w) (t.up n) ≡ w (t.up n)
along_leaves g t ok w n l ne =
    leaves_joined g (along g t w) n (t.parent n) (t.up n) (ok.up_joins n l ne)
    ∙ rw (along_step g t ok w n l ne) (xor_back (w (t.up n)) (along g t w (t.parent n)))

-- an even chain is the sum of the loops of its edges
pub sum_of_loops : (g : Graph) (t : Tree) → IsGraph g → (chain : ℕ → Bool) → IsEven g chain → (e : ℕ) → e < g.edges →
    odd_below g.edges (λ l. chain l && loop g t l e) ≡ chain e
sum_of_loops g t graph chain even e le =
    odd_below-and-xor g.edges chain (λ l. eqb l e) (leaves g (λ n. on_path t n e))
    ∙ (rw (even_leaves g graph chain (λ n. on_path t n e) even)
    (xor-false (odd_below g.edges (λ l. chain l && eqb l e)))
    ∙ (odd_below-same g.edges (λ l. chain l && eqb l e) (λ l. eqb e l && chain l)
    (λ l h. and_comm (chain l) (eqb l e) ∙ ap (λ x. x && chain l) (eqb_comm l e))
    ∙ odd_below-at g.edges e chain le))
