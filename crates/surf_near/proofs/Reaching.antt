-- What a search as far as a radius has reached is what is so near in the tree of shortest walks.
use Rattle.surf_near.proofs.Common.{ℕ, zero, suc, ◌<◌, ◌≤◌, ◌≡◌, ◌≢◌, ◌+◌, sym, ap, ◌∙◌, arith, inl, inr, cases_eq, Graph, Tree, IsTree, IsShortest, joins_turned, step_short, never, IsReachedNear}

module _ (g : Graph) (len : ℕ → ℕ) (base radius : ℕ) (dist : ℕ → ℕ) (tree : Tree) (is_tree : IsTree g tree)
    (short : IsShortest g len tree) (root : tree.root ≡ base) (positive : (e : ℕ) → e < g.edges → 1 ≤ len e)
    (reached : IsReachedNear g len base radius dist) where
  rank_base : tree.rank base ≡ 0
  rank_base = ap tree.rank (sym root) ∙ short.none_at_root

  -- a distance is the length of a walk
  no_less : (n v : ℕ) → dist v < n → v < g.nodes → dist v ≢ never → tree.rank v ≤ dist v
  no_less zero v lt v_in settled = absurd (omega arith)
  no_less (suc n) v lt v_in settled = elim (cases_eq v base) [
    | inl same ↦ let z : tree.rank v ≡ 0 = ap tree.rank same ∙ rank_base in omega arith
    | inr ne ↦
        let r = reached.tight v v_in ne settled in
        let is : dist v ≡ dist r.before + len r.edge = r.is in
        let some : 1 ≤ len r.edge = positive r.edge r.edge_in in
        let bound : tree.rank v ≤ len r.edge + tree.rank r.before = (step_short g len tree short v r.before r.edge r.edge_in r.joined).0 in
        let above : tree.rank r.before ≤ dist r.before = no_less n r.before (omega arith) r.before_in r.settled in
        omega arith
  ]

  -- no walk within the radius is missed
  no_more : (n v : ℕ) → tree.rank v < n → v < g.nodes → tree.rank v ≤ radius → (dist v ≢ never) × (dist v ≤ tree.rank v)
  no_more zero v lt v_in near = absurd (omega arith)
  no_more (suc n) v lt v_in near = elim (cases_eq v base) [
    | inl same ↦
        let z : dist v ≡ 0 = ap dist same ∙ reached.at_base in
        ((λ e. absurd (omega arith)), omega arith)
    | inr ne ↦
        let off : v ≢ tree.root = λ e. ne (e ∙ root) in
        let p = tree.parent v in
        let e = tree.up v in
        let falls : tree.rank p < tree.rank v = is_tree.rank_falls v v_in off in
        let adds : tree.rank v ≡ tree.rank p + len e = short.adds_up v v_in off in
        let p_in = is_tree.parent_in v v_in off in
        let above = no_more n p (omega arith) p_in (omega arith) in
        let le : dist p ≤ tree.rank p = above.1 in
        let here = reached.near p v e p_in v_in (is_tree.up_in v v_in off)
        (joins_turned g v p e (is_tree.up_joins v v_in off)) above.0 (omega arith) in
        let last : dist v ≤ dist p + len e = here.1 in
        (here.0, omega arith)
  ]

  -- a settled node has its distance
  pub same_rank : (v : ℕ) → v < g.nodes → dist v ≢ never → tree.rank v ≡ dist v
  same_rank v v_in settled =
      let low : tree.rank v ≤ dist v = no_less (suc (dist v)) v (omega arith) v_in settled in
      let within : dist v ≤ radius = reached.within v v_in settled in
      let high : dist v ≤ tree.rank v = (no_more (suc (tree.rank v)) v (omega arith) v_in (omega arith)).1 in
      omega arith

  -- a node within the radius is settled
  pub settled_near : (v : ℕ) → v < g.nodes → tree.rank v ≤ radius → dist v ≢ never
  settled_near v v_in near = (no_more (suc (tree.rank v)) v (omega arith) v_in near).0
