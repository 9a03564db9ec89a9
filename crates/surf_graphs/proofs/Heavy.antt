-- A tree that grows by a heaviest edge stays heavy.
use Rattle.surf_z2.proofs.Common.{arith, suc, zero, ◌≤◌, ◌≡◌, ◌≢◌, ℕ, ◌<◌, Bool, true, false, cond, eqb, refl, sym, ◌∙◌, ap, ne_eqb, eq-eqb, inl, inr, ◌⊎◌, get_or, cases_eq, cases_Bool, false≢true, not-true, xor}
use Rattle.surf_graphs.specs.Graphs.{Graph, IsGraph, leaves}
use Rattle.surf_graphs.specs.Trees.{Tree, in_tree, on_way, on_path, graph_loop_length}
use Rattle.surf_graphs.specs.Cells.{Cells, primal, dual, IsCellComplex, Split, IsSplit, IsHeaviest}
use Rattle.surf_graphs.specs.Growth.{Grown, with_node, with_edge, inner_end, between, IsHeavy}
use Rattle.surf_z2.proofs.ParityLaws.{xor-same, xor_comm}

-- the ways of the old nodes stay
old_way : (g : Graph) (allowed reached : ℕ → Bool) (t : Tree) → Grown g allowed reached t → (a b e rank : ℕ) →
    reached b ≡ false → (k n c : ℕ) → n < g.nodes → reached n ≡ true → on_way (with_edge t a b e rank) k n c
    ≡ on_way t k n c
old_way g allowed reached t ok a b e rank out zero n c l rn = refl
old_way g allowed reached t ok a b e rank out (suc k) n c l rn = elim (cases_eq n t.root) [
  | inl same ↦ rw (eq-eqb n t.root same)
  | inr ne ↦
      let nb : n ≢ b = λ same. false≢true (sym out ∙ (ap reached (sym same) ∙ rn)) in
      let above = ok.inside n l rn ne in
      rw (
        ne_eqb n t.root ne,
        ne_eqb n b nb,
        old_way g allowed reached t ok a b e rank out k
            (t.parent n) c above.0 above.1,
      )
]

old_path : (g : Graph) (allowed reached : ℕ → Bool) (t : Tree) → Grown g allowed reached t → (a b e rank : ℕ) →
    reached b ≡ false → (n c : ℕ) → n < g.nodes → reached n ≡ true → on_path (with_edge t a b e rank) n c
    ≡ on_path t n c
old_path g allowed reached t ok a b e rank out n c l rn =
    let nb : n ≢ b = λ same. false≢true (sym out ∙ (ap reached (sym same) ∙ rn)) in
    ap (λ k. on_way (with_edge t a b e rank) k n c) (rw (ne_eqb n b nb)) ∙ old_way g allowed reached t ok a b e rank out
    (t.rank n) n c l rn

-- more steps than the rank change nothing
grown_enough : (g : Graph) (allowed reached : ℕ → Bool) (t : Tree) → Grown g allowed reached t → (k j n c : ℕ) →
    n < g.nodes → reached n ≡ true → t.rank n ≤ k → t.rank n ≤ j → on_way t k n c ≡ on_way t j n c
grown_enough g allowed reached t ok zero zero n c l rn hk hj = refl
grown_enough g allowed reached t ok zero (suc j) n c l rn hk hj = elim (cases_eq n t.root) [
  | inl same ↦ rw (eq-eqb n t.root same)
  | inr ne ↦ let fall : t.rank (t.parent n) < t.rank n = ok.falls n l rn ne in absurd (omega arith)
]
grown_enough g allowed reached t ok (suc k) zero n c l rn hk hj = elim (cases_eq n t.root) [
  | inl same ↦ rw (eq-eqb n t.root same)
  | inr ne ↦ let fall : t.rank (t.parent n) < t.rank n = ok.falls n l rn ne in absurd (omega arith)
]
grown_enough g allowed reached t ok (suc k) (suc j) n c l rn hk hj = elim (cases_eq n t.root) [
  | inl same ↦ rw (eq-eqb n t.root same)
  | inr ne ↦
      let fall : t.rank (t.parent n) < t.rank n = ok.falls n l rn ne in
      let above = ok.inside n l rn ne in
      rw (
        ne_eqb n t.root ne,
        grown_enough g allowed reached t ok k j (t.parent n) c above.0 above.1 (omega arith)
            (omega arith),
      )
]

new_path : (g : Graph) (allowed reached : ℕ → Bool) (t : Tree) → Grown g allowed reached t → (a b e rank : ℕ) →
    t.rank a < rank → a < g.nodes → reached a ≡ true → reached b ≡ false → (c : ℕ) →
    on_path (with_edge t a b e rank) b c ≡ xor (eqb e c) (on_path t a c)
new_path g allowed reached t ok a b e zero more la ra out c = absurd (omega arith)
new_path g allowed reached t ok a b e (suc k) more la ra out c =
    let nb : b ≢ t.root = λ same. false≢true (sym out ∙ (ap reached same ∙ ok.root_reached)) in
    let t2 = with_edge t a b e (suc k) in
    let up_b : cond (eqb b b) e (t.up b) ≡ e = rw (eq-eqb b b refl) in
    let parent_b : cond (eqb b b) a (t.parent b) ≡ a = rw (eq-eqb b b refl) in
    let rank_b : cond (eqb b b) (suc k) (t.rank b) ≡ suc k = rw (eq-eqb b b refl) in
    let first : on_way t2 (suc k) b c ≡ xor (eqb (cond (eqb b b) e (t.up b)) c)
    (on_way t2 k (cond (eqb b b) a (t.parent b)) c) = rw (ne_eqb b t.root nb) in
    ap (λ r. on_way t2 r b c) rank_b
    ∙ (first
    ∙ (ap (λ z. xor (eqb z c) (on_way t2 k (cond (eqb b b) a (t.parent b)) c)) up_b
    ∙ (ap (λ z. xor (eqb e c) (on_way t2 k z c)) parent_b
    ∙ ap (xor (eqb e c))
    (old_way g allowed reached t ok a b e (suc k) out k a c la ra ∙ grown_enough g allowed reached t ok k
    (t.rank a) a c la ra (omega arith) (omega arith)))))

-- an end of the grown tree is the new node or an old one
old_or_new : (reached : ℕ → Bool) (b n : ℕ) → with_node reached b n ≡ true → (n ≡ b) ⊎ (reached n ≡ true)
old_or_new reached b n h = elim (cases_eq n b) [ inl same ↦ inl same | inr ne ↦ inr (rw (ne_eqb n b ne) at h) ]

outside : (reached : ℕ → Bool) (b n : ℕ) → with_node reached b n ≡ false → reached n ≡ false
outside reached b n h = elim (cases_eq n b) [
  | inl same ↦ absurd (false≢true (sym h ∙ rw (eq-eqb n b same)))
  | inr ne ↦ rw (ne_eqb n b ne) at h
]

-- what an edge that leaves the grown nodes does: it starts at the new node, or left the old ones from the same end
record OldEnd (g : Graph) (reached : ℕ → Bool) (b l : ℕ) : Type 0 where
  left : leaves g reached l ≡ true
  same : inner_end g (with_node reached b) l ≡ inner_end g reached l
  inner : reached (inner_end g reached l) ≡ true
  inner_in : inner_end g reached l < g.nodes

inner_of : (g : Graph) → IsGraph g → (reached : ℕ → Bool) (b l : ℕ) → l < g.edges →
    leaves g (with_node reached b) l ≡ true → (inner_end g (with_node reached b) l ≡ b) ⊎ OldEnd g reached b l
inner_of g graph reached b l ll h =
    let ends = graph l ll in
    elim (cases_Bool (with_node reached b (g.from l))) [
      | inl from_in ↦
          let to_out : reached (g.to l) ≡ false =
          outside reached b (g.to l) (not-true (with_node reached b (g.to l)) (rw from_in at h)) in
          elim (old_or_new reached b (g.from l) from_in) [
            | inl is_b ↦ inl (rw from_in is_b)
            | inr old ↦ inr (record {
              left = rw (old, to_out);
              same = rw (from_in, old);
              inner = rw old old;
              inner_in =
                  rw old ends.0;
            })
          ]
      | inr from_out ↦
          let to_in : with_node reached b (g.to l) ≡ true = rw from_out at h in
          let old_out : reached (g.from l) ≡ false = outside reached b (g.from l) from_out in
          elim (old_or_new reached b (g.to l) to_in) [
            | inl is_b ↦ inl (rw from_out is_b)
            | inr old ↦ inr (record {
              left = rw (old_out, old);
              same = rw (from_out, old_out);
              inner = rw old_out old;
              inner_in = rw old_out ends.1;
            })
          ]
    ]

-- a heaviest edge that leaves the reached nodes keeps the tree heavy
pub grow_heavy : (g : Graph) (allowed reached : ℕ → Bool) (t : Tree) (lighter : ℕ → ℕ → Bool) → IsGraph g →
    ((x y z : ℕ) → lighter x y ≡ true → lighter y z ≡ true → lighter x z ≡ true) →
    Grown g allowed reached t → IsHeavy g allowed reached t lighter → (a b e rank : ℕ) → t.rank a < rank → a < g.nodes →
    e < g.edges → allowed e ≡ true → reached a ≡ true → reached b ≡ false → leaves g reached e ≡ true →
    inner_end g reached e ≡ a →
    ((l : ℕ) → l < g.edges → allowed l ≡ true → leaves g reached l ≡ true → lighter l e ≡ true) →
    IsHeavy g allowed (with_node reached b) (with_edge t a b e rank) lighter
grow_heavy g allowed reached t lighter graph chain ok heavy a b e rank more la le ae ra out leaving_e at_a most =
    record {
      inside = λ l c ll al from_in to_in on. elim (old_or_new reached b (g.from l) from_in) [
        | inl from_b ↦ elim (old_or_new reached b (g.to l) to_in) [
          | inl to_b ↦ absurd (false≢true (sym (xor-same (on_path t2 b c)) ∙ rw (from_b, to_b) at on))
          | inr to_old ↦
              let out_l : reached (g.from l) ≡ false = ap reached from_b ∙ out in
              to_new l c ll al (rw (out_l, to_old)) (g.to l) (rw out_l) (graph l ll).1 to_old
              (xor_comm (on_path t2 (g.to l) c) (on_path t2 b c) ∙ rw from_b at on)
        ]
        | inr from_old ↦ elim (old_or_new reached b (g.to l) to_in) [
          | inl to_b ↦
              let out_l : reached (g.to l) ≡ false = ap reached to_b ∙ out in
              to_new l c ll al (rw (from_old, out_l)) (g.from l) (rw from_old) (graph l ll).0 from_old (rw to_b at on)
          | inr to_old ↦ heavy.inside l c ll al from_old to_old
              (rw (old (g.from l) c (graph l ll).0 from_old, old (g.to l) c (graph l ll).1 to_old) at on)
        ]
      ];
      leaving = λ l m c ll lm al am out_l out_m on. elim (inner_of g graph reached b l ll out_l) [
        | inl l_b ↦ elim (inner_of g graph reached b m lm out_m) [
          | inl m_b ↦ absurd (false≢true (sym (xor-same (on_path t2 b c)) ∙ rw (l_b, m_b) at on))
          | inr m_old ↦ inr (to_new m c lm am m_old.left (inner_end g reached m) refl m_old.inner_in m_old.inner
              (xor_comm (on_path t2 (inner_end g reached m) c) (on_path t2 b c) ∙ rw (l_b, m_old.same) at on))
        ]
        | inr l_old ↦ elim (inner_of g graph reached b m lm out_m) [
          | inl m_b ↦ inl (to_new l c ll al l_old.left (inner_end g reached l) refl l_old.inner_in l_old.inner
              (rw (l_old.same, m_b) at on))
          | inr m_old ↦ heavy.leaving l m c ll lm al am l_old.left m_old.left
              (sym (rw (
                old (inner_end g reached l) c l_old.inner_in l_old.inner,
                old (inner_end g reached m) c m_old.inner_in m_old.inner,
              )) ∙ rw (l_old.same, m_old.same) at on)
        ]
      ];
    }
  where
    t2 : Tree
    t2 = with_edge t a b e rank

    old : (n c : ℕ) → n < g.nodes → reached n ≡ true → on_path (with_edge t a b e rank) n c ≡ on_path t n c
    old n c l rn = old_path g allowed reached t ok a b e rank out n c l rn

    to_new : (l c : ℕ) → l < g.edges → allowed l ≡ true → leaves g reached l ≡ true → (x : ℕ) →
        inner_end g reached l ≡ x → x < g.nodes → reached x ≡ true → between (with_edge t a b e rank) x b c ≡ true →
        lighter l c ≡ true
    to_new l c ll al left_l x at_x lx rx on =
        let split : xor (on_path t x c) (xor (eqb e c) (on_path t a c)) ≡ true =
        sym (rw (old x c lx rx, new_path g allowed reached t ok a b e rank more la ra out c)) ∙ on in
        elim (cases_eq e c) [
          | inl same ↦ rw (← same) (most l ll al left_l)
          | inr ne ↦
              let before : between t x a c ≡ true = rw (ne_eqb e c ne) at split in
              elim (heavy.leaving l e c ll le al ae left_l leaving_e (rw (at_x, at_a) before)) [
                | inl mine ↦ mine
                | inr other ↦ chain l e c (most l ll al left_l) other
              ]
        ]

-- a whole heavy cotree is heaviest
pub heaviest_from_heavy : (s : Cells) (len : ℕ → ℕ) (d : Split) → IsCellComplex s → IsSplit s d →
    (allowed : ℕ → Bool) (reached : ℕ → Bool) (lighter : ℕ → ℕ → Bool) →
    ((e : ℕ) → e < s.edges → in_tree (primal s) d.tree e ≡ false → allowed e ≡ true) →
    ((f : ℕ) → f < s.faces → reached f ≡ true) →
    ((x y : ℕ) → lighter x y ≡ true → graph_loop_length (primal s) len d.tree x ≤ graph_loop_length (primal s) len d.tree y) →
    IsHeavy (dual s) allowed reached d.cotree lighter → IsHeaviest s len d
heaviest_from_heavy s len d cells ok allowed reached lighter allow all short heavy k c lk lc on parted =
    let l = get_or d.left k 0 in
    let ll : l < s.edges = ok.left_in k lk in
    let ends = cells.dual_ends l ll in
    short l c (heavy.inside l c ll (allow l ll (ok.left_outside k lk)) (all (s.near l) ends.0)
    (all (s.far l) ends.1) parted)
