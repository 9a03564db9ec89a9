-- The ways between the root of a tree and its nodes go from parent to parent.
use Rattle.surf_z2.proofs.Common.{◌≡◌, ◌≢◌, ℕ, zero, suc, ◌<◌, ◌≤◌, inl, inr, refl, sym, ap, ◌∙◌, arith, ne_eqb, eq-eqb, [], ◌∷◌, ◌++◌, cases_eq}
use Rattle.surf_graphs.specs.Graphs.{Graph}
use Rattle.surf_graphs.specs.Trees.{Tree, IsTree}
use Rattle.surf_graphs.specs.Loops.{way_down, way_up}
use Rattle.surf_graphs.specs.Laws.{WaysGoByParents}

up_at_root : (t : Tree) (k n : ℕ) → n ≡ t.root → way_up t k n ≡ []
up_at_root t zero n e = refl
up_at_root t (suc k) n e = rw (eq-eqb n t.root e) refl

down_at_root : (t : Tree) (k n : ℕ) → n ≡ t.root → way_down t k n ≡ []
down_at_root t zero n e = refl
down_at_root t (suc k) n e = rw (eq-eqb n t.root e) refl

module _ (g : Graph) (t : Tree) (tree : IsTree g t) where
  at_root : (n : ℕ) → n < g.nodes → t.rank n ≤ 0 → n ≡ t.root
  at_root n h low = elim (cases_eq n t.root) [
    | inl same ↦ same
    | inr ne ↦ let fall : t.rank (t.parent n) < t.rank n = tree.rank_falls n h ne in absurd (omega arith)
  ]

  -- more steps than the rank change nothing
  up_enough : (j k n : ℕ) → n < g.nodes → t.rank n ≤ j → t.rank n ≤ k → way_up t j n ≡ way_up t k n
  up_enough zero k n h a b = sym (up_at_root t k n (at_root n h a))
  up_enough (suc j) zero n h a b = up_at_root t (suc j) n (at_root n h b)
  up_enough (suc j) (suc k) n h a b = elim (cases_eq n t.root) [
    | inl same ↦ up_at_root t (suc j) n same ∙ sym (up_at_root t (suc k) n same)
    | inr ne ↦
        let fall : t.rank (t.parent n) < t.rank n = tree.rank_falls n h ne in
        let rest = up_enough j k (t.parent n) (tree.parent_in n h ne) (omega arith) (omega arith) in
        rw (ne_eqb n t.root ne) (ap (λ w. t.parent n ∷ w) rest)
  ]

  down_enough : (j k n : ℕ) → n < g.nodes → t.rank n ≤ j → t.rank n ≤ k → way_down t j n ≡ way_down t k n
  down_enough zero k n h a b = sym (down_at_root t k n (at_root n h a))
  down_enough (suc j) zero n h a b = down_at_root t (suc j) n (at_root n h b)
  down_enough (suc j) (suc k) n h a b = elim (cases_eq n t.root) [
    | inl same ↦ down_at_root t (suc j) n same ∙ sym (down_at_root t (suc k) n same)
    | inr ne ↦
        let fall : t.rank (t.parent n) < t.rank n = tree.rank_falls n h ne in
        let rest = down_enough j k (t.parent n) (tree.parent_in n h ne) (omega arith) (omega arith) in
        rw (ne_eqb n t.root ne) (ap (λ w. w ++ n ∷ []) rest)
  ]

  up_by : (j n : ℕ) → n < g.nodes → n ≢ t.root → t.rank n ≡ j →
      way_up t j n ≡ t.parent n ∷ way_up t (t.rank (t.parent n)) (t.parent n)
  up_by zero n h ne e = absurd (ne (at_root n h (omega arith)))
  up_by (suc j) n h ne e =
      let fall : t.rank (t.parent n) < t.rank n = tree.rank_falls n h ne in
      rw (ne_eqb n t.root ne) (ap (λ w. t.parent n ∷ w)
      (up_enough j (t.rank (t.parent n)) (t.parent n) (tree.parent_in n h ne) (omega arith) (omega arith)))

  down_by : (j n : ℕ) → n < g.nodes → n ≢ t.root → t.rank n ≡ j →
      way_down t j n ≡ way_down t (t.rank (t.parent n)) (t.parent n) ++ n ∷ []
  down_by zero n h ne e = absurd (ne (at_root n h (omega arith)))
  down_by (suc j) n h ne e =
      let fall : t.rank (t.parent n) < t.rank n = tree.rank_falls n h ne in
      rw (ne_eqb n t.root ne) (ap (λ w. w ++ n ∷ [])
      (down_enough j (t.rank (t.parent n)) (t.parent n) (tree.parent_in n h ne) (omega arith) (omega arith)))

pub ways_go_by_parents : WaysGoByParents
ways_go_by_parents g t tree = record {
  up_root = up_at_root t (t.rank t.root) t.root refl;
  up_step = λ n h ne. up_by g t tree (t.rank n) n h ne refl;
  down_root = down_at_root t (t.rank t.root) t.root refl;
  down_step = λ n h ne. down_by g t tree (t.rank n) n h ne refl;
}
