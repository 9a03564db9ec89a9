-- The way up from a node of a tree, turned, and lists that grow by it.
use Rattle.std.proofs.Common.{ℕ, zero, suc, ◌<◌, ◌≤◌, ◌≡◌, refl, sym, ap, ◌∙◌, subst, arith, inl, inr, List, [], ◌∷◌, ◌++◌, reverse}
use Rattle.std.proofs.lemmas.Bool.{cases_eq}
use Rattle.std.proofs.lemmas.List.{reverse-append, append_assoc}
use Rattle.surf_graphs.specs.Graphs.{Graph}
use Rattle.surf_graphs.specs.Trees.{Tree, IsTree}
use Rattle.surf_graphs.specs.Loops.{way_down, way_up}
use Rattle.surf_graphs.proofs.Ways.{ways_go_by_parents}

reversed_by : (k : ℕ) (g : Graph) (t : Tree) → IsTree g t → (n : ℕ) → n < g.nodes → t.rank n ≤ k →
    reverse (n ∷ way_up t (t.rank n) n) ≡ t.root ∷ way_down t (t.rank n) n
reversed_by zero g t tree n l le = elim (cases_eq n t.root) [
  | inl same ↦
      let by = ways_go_by_parents g t tree in
      subst (λ m. reverse (m ∷ way_up t (t.rank m) m) ≡ t.root ∷ way_down t (t.rank m) m) (sym same) (rw (by.up_root, by.down_root) refl)
  | inr ne ↦ let fall = tree.rank_falls n l ne in absurd (omega arith)
]
reversed_by (suc k) g t tree n l le = elim (cases_eq n t.root) [
  | inl same ↦
      let by = ways_go_by_parents g t tree in
      subst (λ m. reverse (m ∷ way_up t (t.rank m) m) ≡ t.root ∷ way_down t (t.rank m) m) (sym same) (rw (by.up_root, by.down_root) refl)
  | inr ne ↦
      let by = ways_go_by_parents g t tree in
      let p = t.parent n in
      let fall : t.rank (t.parent n) < t.rank n = tree.rank_falls n l ne in
      let ih = reversed_by k g t tree (t.parent n) (tree.parent_in n l ne) (omega arith) in
      rw (by.up_step n l ne, by.down_step n l ne)
      (reverse-append (n ∷ []) (t.parent n ∷ way_up t (t.rank (t.parent n)) (t.parent n)) ∙ ap (λ xs. xs ++ n ∷ []) ih)
]

-- the way up from a node, turned
pub way_reversed : (g : Graph) (t : Tree) → IsTree g t → (n : ℕ) → n < g.nodes → reverse (n ∷ way_up t (t.rank n) n) ≡ t.root ∷ way_down t (t.rank n) n
way_reversed g t tree n l = reversed_by (t.rank n) g t tree n l (omega arith)

-- a list that grows by the way up, with what is still to come
pub way_goes_on : (old new rest whole : List ℕ) (x : ℕ) → new ≡ old ++ x ∷ [] → old ++ x ∷ rest ≡ whole → new ++ rest ≡ whole
way_goes_on old new rest whole x grew is = ap (λ xs. xs ++ rest) grew ∙ append_assoc old (x ∷ []) rest ∙ is
