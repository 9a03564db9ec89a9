-- Two rooted trees with the same root and the same edges are the same.
use Rattle.surf_z2.proofs.Common.{◌≡◌, ◌≢◌, ℕ, ◌<◌, ◌≤◌, Bool, true, false, ◌&&◌, eqb, refl, sym, ◌∙◌, ap, arith, inl, inr, ◌⊎◌, eq-eqb, ne_eqb, cases_eq, cases_Bool, false≢true, xor, odd_below}
use Rattle.surf_z2.proofs.ParityLaws.{xor-same, xor_equal, and_comm, odd_below-same, odd_below-and-xor}
use Rattle.surf_graphs.specs.Graphs.{Graph, IsGraph, IsEven, joins, leaves, graph_touches}
use Rattle.surf_graphs.specs.Trees.{Tree, IsTree, in_tree, on_path}
use Rattle.surf_graphs.proofs.Trees.{tree_edge, up_in_tree, path_root, path_step, path_leaves, path_inside, along_is, one_of, up_once, down_tree, empty_inside}

-- an edge on the way from n to the root is that of a node that is no deeper
path_node : (g : Graph) (t : Tree) → IsTree g t → (n : ℕ) → n < g.nodes → (e : ℕ) → on_path t n e ≡ true →
    (k : ℕ) × (k < g.nodes) × (k ≢ t.root) × (t.up k ≡ e) × (t.rank k ≤ t.rank n)
path_node g t ok n l =
    down_tree g t ok (λ m. (e : ℕ) → on_path t m e ≡ true → (k : ℕ) × (k < g.nodes) × (k ≢ t.root) × (t.up k ≡ e)
    × (t.rank k ≤ t.rank m))
    (λ e on. absurd (false≢true (sym (path_root t e) ∙ on)))
    (λ m lm ne parent e on. elim (cases_eq (t.up m) e) [
      | inl same ↦ (m, lm, ne, same, omega arith)
      | inr other ↦
          let later : on_path t (t.parent m) e ≡ true =
          rw (ne_eqb (t.up m) e other) at (sym (path_step g t ok m e lm ne) ∙ on) in
          let (k, lk, nk, is, no_deeper) = parent e later in
          let falls = ok.rank_falls m lm ne in
          (k, lk, nk, is, omega (arith, no_deeper, falls))
    ]) n l

-- the edge to a parent is on the way from the node, and not on the way from the parent
up_apart : (g : Graph) (t : Tree) → IsTree g t → (n : ℕ) → n < g.nodes → n ≢ t.root →
    on_path t (t.parent n) (t.up n) ≡ false
up_apart g t ok n l ne = elim (cases_Bool (on_path t (t.parent n) (t.up n))) [
  | inr out ↦ out
  | inl on ↦
      let (k, lk, nk, is, no_deeper) = path_node g t ok (t.parent n) (ok.parent_in n l ne) (t.up n) on in
      let same : k ≡ n = up_once g t ok k n lk nk l ne is in
      let falls = ok.rank_falls n l ne in
      let rank_same : t.rank k ≡ t.rank n = ap t.rank same in
      absurd (omega (arith, no_deeper, falls, rank_same))
]

up_on : (g : Graph) (t : Tree) → IsTree g t → (n : ℕ) → n < g.nodes → n ≢ t.root → on_path t n (t.up n) ≡ true
up_on g t ok n l ne = path_step g t ok n (t.up n) l ne ∙ rw (eq-eqb (t.up n) (t.up n) refl, up_apart g t ok n l ne)

other_end : (f h n p q : ℕ) → ((f ≡ n) × (h ≡ p)) ⊎ ((f ≡ p) × (h ≡ n)) → ((f ≡ n) × (h ≡ q)) ⊎ ((f ≡ q) × (h ≡ n)) →
    p ≡ q
other_end f h n p q x y = grind arith

one_end : (f h n p m q : ℕ) → ((f ≡ n) × (h ≡ p)) ⊎ ((f ≡ p) × (h ≡ n)) → ((f ≡ m) × (h ≡ q)) ⊎ ((f ≡ q) × (h ≡ m)) →
    (m ≡ n) ⊎ (m ≡ p)
one_end f h n p m q (inl x) (inl y) = inl (sym y.0 ∙ x.0)
one_end f h n p m q (inl x) (inr y) = inr (sym y.1 ∙ x.1)
one_end f h n p m q (inr x) (inl y) = inr (sym y.0 ∙ x.0)
one_end f h n p m q (inr x) (inr y) = inl (sym y.1 ∙ x.1)

module _ (g : Graph) (a b : Tree) (graph : IsGraph g) (ta : IsTree g a) (tb : IsTree g b) (root : a.root ≡ b.root)
    (same : (e : ℕ) → e < g.edges → in_tree g a e ≡ in_tree g b e) where
  -- the two ways from a node to the root make an even chain
  ways_even : (n : ℕ) → n < g.nodes → IsEven g (λ e. xor (on_path a n e) (on_path b n e))
  ways_even n l v lv =
      let test : ℕ → Bool = λ m. eqb m v in
      odd_below-same g.edges (λ e. xor (on_path a n e) (on_path b n e) && graph_touches g v e)
      (λ e. leaves g test e && xor (on_path a n e) (on_path b n e))
      (λ e le. and_comm (xor (on_path a n e) (on_path b n e)) (leaves g test e))
      ∙ odd_below-and-xor g.edges (leaves g test) (on_path a n) (on_path b n)
      ∙ ap (λ x. xor x (odd_below g.edges (λ e. leaves g test e && on_path b n e)))
      (sym (along_is g a (leaves g test) n) ∙ path_leaves g a ta test n l)
      ∙ ap (xor (xor (test n) (test a.root))) (sym (along_is g b (leaves g test) n) ∙ path_leaves g b tb test n l)
      ∙ ap (λ r. xor (xor (test n) (test r)) (xor (test n) (test b.root))) root
      ∙ xor-same (xor (test n) (test b.root))

  ways_same : (n e : ℕ) → n < g.nodes → e < g.edges → on_path a n e ≡ on_path b n e
  ways_same n e l le =
      xor_equal (on_path a n e) (on_path b n e)
      (empty_inside g a graph ta (λ h. xor (on_path a n h) (on_path b n h)) (ways_even n l)
      (λ h lh on. elim (cases_Bool (in_tree g a h)) [
        | inl inside ↦ inside
        | inr out ↦
            let out_b : in_tree g b h ≡ false = sym (same h lh) ∙ out in
            absurd (false≢true (sym (rw (path_inside g a ta h out n l, path_inside g b tb h out_b n l) refl) ∙ on))
      ]) e le)

  pub ups_same : (n : ℕ) → n < g.nodes → n ≢ a.root → a.up n ≡ b.up n
  ups_same n l ne =
      let e = a.up n in
      let e_in = ta.up_in n l ne in
      let p = a.parent n in
      let p_in = ta.parent_in n l ne in
      let inside : in_tree g b e ≡ true = sym (same e e_in) ∙ in_own n l ne in
      let (m, m_in, nm, is) = tree_edge g b e inside in
      let joins_m : joins g m (b.parent m) e ≡ true = ap (joins g m (b.parent m)) (sym is) ∙ tb.up_joins m m_in nm in
      elim (one_end (g.from e) (g.to e) n p m (b.parent m) (one_of g n p e (ta.up_joins n l ne))
      (one_of g m (b.parent m) e joins_m)) [
        | inl m_is_n ↦ sym is ∙ ap b.up m_is_n
        | inr m_is_p ↦
            let on : on_path b m e ≡ true = ap (on_path b m) (sym is) ∙ up_on g b tb m m_in nm in
            let off : on_path b p e ≡ false = sym (ways_same p e p_in e_in) ∙ up_apart g a ta n l ne in
            absurd (false≢true (sym off ∙ ap (λ x. on_path b x e) (sym m_is_p) ∙ on))
      ]
    where
      in_own : (n : ℕ) → n < g.nodes → n ≢ a.root → in_tree g a (a.up n) ≡ true
      in_own n l ne = up_in_tree g a n l ne

  pub parents_same : (n : ℕ) → n < g.nodes → n ≢ a.root → a.parent n ≡ b.parent n
  parents_same n l ne =
      let e = a.up n in
      let ne_b : n ≢ b.root = λ is. ne (is ∙ sym root) in
      let joins_b : joins g n (b.parent n) e ≡ true =
      ap (joins g n (b.parent n)) (ups_same n l ne) ∙ tb.up_joins n l ne_b in
      other_end (g.from e) (g.to e) n (a.parent n) (b.parent n) (one_of g n (a.parent n) e (ta.up_joins n l ne))
      (one_of g n (b.parent n) e joins_b)
