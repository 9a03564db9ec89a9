-- The ranks of a tree are no more than its nodes allow.
use Rattle.surf_surfaces.proofs.Common.{◌≡◌, ◌≢◌, ℕ, zero, suc, ◌+◌, ◌*◌, ◌<◌, ◌≤◌, Bool, true, not, ◌&&◌, eqb, refl, ap, ◌∙◌, arith, inl, inr, cases_eq, ne_eqb, count_below, count_below-all, count_below-without, Graph, Tree, IsTree}

module _ (g : Graph) (t : Tree) (most : ℕ) (tree : IsTree g t) (none_at_root : t.rank t.root ≡ 0)
    (short : (n : ℕ) → n < g.nodes → n ≢ t.root → t.rank n ≤ t.rank (t.parent n) + most) where
  -- each step on the way to the root takes another node out of those of at most this rank
  rank_among : (steps n : ℕ) → t.rank n < steps → n < g.nodes → (p : ℕ → Bool) →
      ((m : ℕ) → m < g.nodes → t.rank m ≤ t.rank n → p m ≡ true) → t.rank n + most ≤ count_below g.nodes p * most
  rank_among zero n bound n_in p all = absurd (omega arith)
  rank_among (suc steps) n bound n_in p all =
      let some = count_below-without g.nodes n p n_in (all n n_in (omega arith)) in
      elim (cases_eq n t.root) [
        | inl same ↦
            let none : t.rank n ≡ 0 = ap t.rank same ∙ none_at_root in
            rw some (omega (arith, none))
        | inr ne ↦
            let falls = tree.rank_falls n n_in ne in
            let near = short n n_in ne in
            let rest = rank_among steps (t.parent n) (omega (arith, falls, bound)) (tree.parent_in n n_in ne)
            (λ m. p m && not (eqb n m)) (λ m m_in low.
            let apart : n ≢ m = λ same. let ranks = ap t.rank same in omega (arith, falls, low, ranks) in
            rw (all m m_in (omega (arith, falls, low)), ne_eqb n m apart) refl) in
            rw some (omega (arith, rest, near))
      ]

  -- where a step adds at most so much, the ranks are below as much for each node
  pub ranks_fit : (n : ℕ) → n < g.nodes → t.rank n + most ≤ g.nodes * most
  ranks_fit n n_in =
      rw (count_below-all g.nodes) at (rank_among (suc (t.rank n)) n (omega arith) n_in (λ m. true) (λ m m_in low. refl))
