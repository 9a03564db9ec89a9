-- Where allowed edges connect a graph, they have a heaviest spanning tree.
use Rattle.std.proofs.Common.{◌≡◌, ◌≢◌, ℕ, zero, suc, ◌+◌, ◌<◌, ◌≤◌, Bool, true, false, not, ◌&&◌, eqb, refl, sym, ◌∙◌, ap, arith, inl, inr, ◌⊎◌, eqb-true, eq-eqb, ne_eqb}
use Rattle.surf_z2.proofs.Common.{cases_eq, cases_Bool, and_parts, and_from, not-true, false≢true, any_below, count_below}
use Rattle.surf_z2.proofs.ParityLaws.{any_below-none}
use Rattle.surf_graphs.specs.Graphs.{Graph, IsGraph, leaves}
use Rattle.surf_graphs.specs.Growth.{Grown, with_node, with_edge, between, IsHeavy}
use Rattle.surf_graphs.specs.Trees.{Tree, IsTree}
use Rattle.surf_graphs.proofs.Growth.{grow_one, grown_tree, fewer_left, none_left, old_node}
use Rattle.surf_graphs.proofs.Heavy.{grow_heavy}
use Rattle.surf_graphs.proofs.Loops.{joins_turned, joins_ends}

-- a heaviest tree of all nodes over allowed edges, with the depths of its nodes as ranks
pub record HeaviestTree (g : Graph) (allowed : ℕ → Bool) (lighter : ℕ → ℕ → Bool) (root : ℕ) : Type 0 where
  pub tree : Tree
  pub is : IsTree g tree
  pub at_root : tree.root ≡ root
  pub over : (n : ℕ) → n < g.nodes → n ≢ root → allowed (tree.up n) ≡ true
  pub root_depth : tree.rank root ≡ 0
  pub depths : (n : ℕ) → n < g.nodes → n ≢ root → tree.rank n ≡ tree.rank (tree.parent n) + 1
  pub heavy : (l c : ℕ) → l < g.edges → allowed l ≡ true → between tree (g.from l) (g.to l) c ≡ true →
      lighter l c ≡ true

-- the depths of the reached nodes
record Depths (g : Graph) (reached : ℕ → Bool) (t : Tree) (root : ℕ) : Type 0 where
  at_root : t.root ≡ root
  root_depth : t.rank root ≡ 0
  depths : (n : ℕ) → n < g.nodes → reached n ≡ true → n ≢ root → t.rank n ≡ t.rank (t.parent n) + 1

module _ (lighter : ℕ → ℕ → Bool) (total : (x y : ℕ) → (lighter x y ≡ true) ⊎ (lighter y x ≡ true))
    (chain : (x y z : ℕ) → lighter x y ≡ true → lighter y z ≡ true → lighter x z ≡ true) where
  alike : (x : ℕ) → lighter x x ≡ true
  alike x = elim (total x x) [ inl h ↦ h | inr h ↦ h ]

  -- a heaviest one of those that pass
  heaviest : (n : ℕ) (p : ℕ → Bool) → any_below n p ≡ true →
      (e : ℕ) × (e < n) × (p e ≡ true) × ((l : ℕ) → l < n → p l ≡ true → lighter l e ≡ true)
  heaviest zero p h = absurd (false≢true h)
  heaviest (suc n) p h = elim (cases_Bool (p n)) [
    | inl here ↦ elim (cases_Bool (any_below n p)) [
      | inl some ↦
          let (e, l, is, most) = heaviest n p some in
          elim (total n e) [
            | inl below ↦ (
              e,
              omega arith,
              is,
              λ k lk on. elim (cases_eq k n) [ inl same ↦ rw same below | inr ne ↦ most k (omega arith) on ],
            )
            | inr over ↦ (
              n,
              omega arith,
              here,
              λ k lk on. elim (cases_eq k n) [
                | inl same ↦ rw same (alike n)
                | inr ne ↦ chain k e n (most k (omega arith) on) over
              ],
            )
          ]
      | inr none ↦ (
        n,
        omega arith,
        here,
        λ k lk on. elim (cases_eq k n) [
          | inl same ↦ rw same (alike n)
          | inr ne ↦ absurd (false≢true (sym (any_below-none n p none k (omega arith)) ∙ on))
        ],
      )
    ]
    | inr out ↦
        let some : any_below n p ≡ true = rw out at h in
        let (e, l, is, most) = heaviest n p some in (
          e,
          omega arith,
          is,
          λ k lk on. elim (cases_eq k n) [
            | inl same ↦ absurd (false≢true (sym out ∙ ap p (sym same) ∙ on))
            | inr ne ↦ most k (omega arith) on
          ],
        )
  ]

  -- one more node is one deeper than the node that it hangs on
  deeper : (g : Graph) (allowed reached : ℕ → Bool) (t : Tree) (root a b e : ℕ) → Grown g allowed reached t →
      Depths g reached t root → root < g.nodes → reached a ≡ true → reached b ≡ false →
      Depths g (with_node reached b) (with_edge t a b e (suc (t.rank a))) root
  deeper g allowed reached t root a b e ok d root_in ra out =
      let root_reached : reached root ≡ true = ap reached (sym d.at_root) ∙ ok.root_reached in
      let apart : (n : ℕ) → reached n ≡ true → n ≢ b = λ n rn same. false≢true (sym out ∙ ap reached (sym same) ∙ rn) in
      record {
        at_root = d.at_root;
        root_depth = rw (ne_eqb root b (apart root root_reached)) d.root_depth;
        depths = λ n l on ne. elim (cases_eq n b) [
          | inl same ↦ rw (eq-eqb n b same, ne_eqb a b (apart a ra)) (omega arith)
          | inr other ↦
              let old : reached n ≡ true = old_node reached b n other on in
              let parent = ok.inside n l old (λ e. ne (e ∙ d.at_root)) in
              rw (ne_eqb n b other, ne_eqb (t.parent n) b (apart (t.parent n) parent.1)) (d.depths n l old ne)
        ];
      }

  done : (g : Graph) (allowed reached : ℕ → Bool) (t : Tree) (root : ℕ) → IsGraph g → Grown g allowed reached t →
      Depths g reached t root → IsHeavy g allowed reached t lighter → ((n : ℕ) → n < g.nodes → reached n ≡ true) →
      HeaviestTree g allowed lighter root
  done g allowed reached t root graph ok d heavy all = record {
    tree = t;
    is = grown_tree g allowed reached t ok all;
    at_root = d.at_root;
    over = λ n l ne. (ok.edge n l (all n l) (λ e. ne (e ∙ d.at_root))).1;
    root_depth = d.root_depth;
    depths = λ n l ne. d.depths n l (all n l) ne;
    heavy = λ l c ll al on. heavy.inside l c ll al (all (g.from l) (graph l ll).0) (all (g.to l) (graph l ll).1) on;
  }

  grow : (fuel : ℕ) (g : Graph) (allowed reached : ℕ → Bool) (t : Tree) (root : ℕ) → root < g.nodes → IsGraph g →
      ((set : ℕ → Bool) → ((e : ℕ) → e < g.edges → allowed e ≡ true → leaves g set e ≡ false) → (a b : ℕ) →
      a < g.nodes → b < g.nodes → set a ≡ set b) →
      Grown g allowed reached t → Depths g reached t root → IsHeavy g allowed reached t lighter →
      count_below g.nodes (λ k. not (reached k)) ≤ fuel → HeaviestTree g allowed lighter root
  grow zero g allowed reached t root root_in graph joined ok d heavy h =
      done g allowed reached t root graph ok d heavy (none_left g.nodes reached h)
  grow (suc fuel) g allowed reached t root root_in graph joined ok d heavy h =
      elim (cases_Bool (any_below g.edges (λ e. allowed e && leaves g reached e))) [
        | inr none ↦ done g allowed reached t root graph ok d heavy (λ n l.
            joined reached (λ e le ae. rw ae at (any_below-none g.edges (λ x. allowed x && leaves g reached x) none e le)) n
            t.root l ok.root_in ∙ ok.root_reached)
        | inl some ↦
            let (e, le, both, most) = heaviest g.edges (λ x. allowed x && leaves g reached x) some in
            let on : (allowed e ≡ true) × (leaves g reached e ≡ true) = and_parts (allowed e) (leaves g reached e) both in
            let ends = graph e le in
            let no_heavier : (l : ℕ) → l < g.edges → allowed l ≡ true → leaves g reached l ≡ true → lighter l e ≡ true =
            λ l ll al out. most l ll (and_from (allowed l) (leaves g reached l) al out) in
            elim (cases_Bool (reached (g.from e))) [
              | inl from_in ↦
                  let to_out : reached (g.to e) ≡ false = not-true (reached (g.to e)) (rw from_in at on.1) in
                  let less = fewer_left g.nodes reached (g.to e) ends.1 to_out in
                  grow fuel g allowed (with_node reached (g.to e))
                  (with_edge t (g.from e) (g.to e) e (suc (t.rank (g.from e)))) root root_in graph joined
                  (grow_one g allowed reached t ok (g.from e) (g.to e) e (suc (t.rank (g.from e)))
                  (omega arith) ends.0 ends.1 le on.0 from_in to_out
                  (joins_turned g (g.from e) (g.to e) e (joins_ends g e)))
                  (deeper g allowed reached t root (g.from e) (g.to e) e ok d root_in from_in to_out)
                  (grow_heavy g allowed reached t lighter graph chain ok heavy (g.from e) (g.to e) e
                  (suc (t.rank (g.from e))) (omega arith) ends.0 le on.0 from_in to_out on.1 (rw from_in) no_heavier)
                  (omega arith)
              | inr from_out ↦
                  let to_in : reached (g.to e) ≡ true = rw from_out at on.1 in
                  let less = fewer_left g.nodes reached (g.from e) ends.0 from_out in
                  grow fuel g allowed (with_node reached (g.from e))
                  (with_edge t (g.to e) (g.from e) e (suc (t.rank (g.to e)))) root root_in graph joined
                  (grow_one g allowed reached t ok (g.to e) (g.from e) e (suc (t.rank (g.to e)))
                  (omega arith) ends.1 ends.0 le on.0 to_in from_out (joins_ends g e))
                  (deeper g allowed reached t root (g.to e) (g.from e) e ok d root_in to_in from_out)
                  (grow_heavy g allowed reached t lighter graph chain ok heavy (g.to e) (g.from e) e (suc (t.rank (g.to e)))
                  (omega arith) ends.1 le on.0 to_in from_out on.1 (rw from_out) no_heavier)
                  (omega arith)
            ]
      ]

  pub heaviest_tree : (g : Graph) (allowed : ℕ → Bool) (root : ℕ) → root < g.nodes → IsGraph g →
      ((set : ℕ → Bool) → ((e : ℕ) → e < g.edges → allowed e ≡ true → leaves g set e ≡ false) → (a b : ℕ) →
      a < g.nodes → b < g.nodes → set a ≡ set b) → HeaviestTree g allowed lighter root
  heaviest_tree g allowed root l graph joined =
      let t : Tree = record { root = root; parent = λ n. 0; up = λ n. 0; rank = λ n. 0 } in
      let only : (n : ℕ) → eqb n root ≡ true → n ≡ root = λ n rn. eqb-true n root rn in
      grow (count_below g.nodes (λ k. not (eqb k root))) g allowed (λ k. eqb k root) t root l graph joined
      (record {
        root_in = l;
        root_reached = eq-eqb root root refl;
        inside = λ n ln rn ne. absurd (ne (only n rn));
        edge = λ n ln rn ne. absurd (ne (only n rn));
        joined = λ n ln rn ne. absurd (ne (only n rn));
        falls = λ n ln rn ne. absurd (ne (only n rn));
      })
      (record { at_root = refl; root_depth = refl; depths = λ n ln rn ne. absurd (ne (only n rn)) })
      (record {
        inside = λ k c ll al from_in to_in on. absurd (false≢true on);
        leaving = λ k m c ll lm al am out_l out_m on. absurd (false≢true on);
      })
      (omega arith)
