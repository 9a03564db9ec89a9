-- One turn of the hanging, in which a leaf is told by its edge.
use Rattle.surf_cotree.proofs.Common.{ℕ, ◌<◌, ◌≤◌, ◌≡◌, ◌+◌, ◌-◌, ◌⊎◌, refl, sym, ap, ◌∙◌, subst, arith, inl, inr, List, length, set, Bool, true, false, false≢true, Graph, IsGraph, joins, nobody, at, reached, Leaf, leaf_at, IsLeaf, IsHungBy}
use Rattle.surf_cotree.proofs.Hanging.{face_in, next_in, turn_free, turn_joined, turn_none, turn_fits, turn_one}

-- of the two ends of an edge the first one is that which isn't reached
abbrev pub TellsLeaf : Graph → List ℕ → ℕ → ℕ → ℕ → Type 0
TellsLeaf g depth e near far = (f a : ℕ) → joins g f a e ≡ true → reached depth f ≡ false →
    ((near ≡ f) × (far ≡ a)) ⊎ ((near ≡ a) × (far ≡ f) × (reached depth a ≡ false))

module _ (g : Graph) (allowed : ℕ → Bool) (weight : ℕ → ℕ) (graph : IsGraph g) (few : g.edges ≤ nobody) (small : g.nodes ≤ nobody) (edges : List ℕ) (k : ℕ)
    (parent up depth : List ℕ) (h : IsHungBy g allowed weight edges k parent up depth) (some : 0 < k) (e : ℕ) (is : e ≡ at edges (k - 1)) where
  abbrev x : Leaf
  x = leaf_at h.leaves (k - 1)

  its_edge : e ≡ x.edge
  its_edge = is ∙ h.by (k - 1) (omega arith)

  pub leaf_edge_in : e < g.edges
  leaf_edge_in = let leaf : IsLeaf g allowed h.leaves (k - 1) = h.hung.leaf (k - 1) (omega arith) in
      subst (λ n. n < g.edges) (sym its_edge) leaf.hangs.edge_in

  module _ (near far : ℕ) (tells : TellsLeaf g depth e near far) where
    told : ((near ≡ x.face) × (far ≡ x.on)) ⊎ ((near ≡ x.on) × (far ≡ x.face) × (reached depth x.on ≡ false))
    told = tells x.face x.on
        (subst (λ n. joins g x.face x.on n ≡ true) (sym its_edge) (turn_joined g allowed weight graph few small h.leaves k parent up depth h.hung some x refl))
        (turn_free g allowed weight graph few small h.leaves k parent up depth h.hung some x refl)

    pub near_in : near < g.nodes
    near_in = elim told [
      | inl (a, b) ↦ subst (λ n. n < g.nodes) (sym a) (face_in g allowed weight graph few small h.leaves k parent up depth h.hung some x refl)
      | inr (a, b, c) ↦ subst (λ n. n < g.nodes) (sym a) (next_in g allowed weight graph few small h.leaves k parent up depth h.hung some x refl)
    ]

    pub far_in : far < g.nodes
    far_in = elim told [
      | inl (a, b) ↦ subst (λ n. n < g.nodes) (sym b) (next_in g allowed weight graph few small h.leaves k parent up depth h.hung some x refl)
      | inr (a, b, c) ↦ subst (λ n. n < g.nodes) (sym b) (face_in g allowed weight graph few small h.leaves k parent up depth h.hung some x refl)
    ]

    -- where the other one is reached, the leaf is as told
    leaf_is : reached depth far ≡ true → record { face = near; edge = e; on = far } ≡ x
    leaf_is there = elim told [
      | inl (a, b) ↦ λ i. record { face = a i; edge = its_edge i; on = b i }
      | inr (a, b, c) ↦
          let free = turn_free g allowed weight graph few small h.leaves k parent up depth h.hung some x refl in
          absurd (false≢true (sym free ∙ (ap (reached depth) (sym b) ∙ there)))
    ]

    pub none_hung : reached depth far ≡ false → IsHungBy g allowed weight edges (k - 1) parent up depth
    none_hung away =
        let out : reached depth x.on ≡ false = elim told [
          | inl (a, b) ↦ ap (reached depth) (sym b) ∙ away
          | inr (a, b, c) ↦ c
        ] in
        record {
          leaves = h.leaves;
          few = let n = h.few in omega arith;
          by = λ j l. h.by j (omega arith);
          hung = turn_none g allowed weight graph few small h.leaves k parent up depth h.hung some x refl out;
        }

    module _ (lp : length parent ≡ g.nodes) (lu : length up ≡ g.nodes) (ld : length depth ≡ g.nodes) (there : reached depth far ≡ true) where
      pub depth_room : at depth far + 1 < g.nodes
      depth_room = turn_fits g allowed weight graph few small h.leaves k parent up depth h.hung some (record { face = near; edge = e; on = far }) (leaf_is there) lp lu ld there

      pub one_hung : IsHungBy g allowed weight edges (k - 1) (set parent near far) (set up near e) (set depth near (at depth far + 1))
      one_hung = record {
        leaves = h.leaves;
        few = let n = h.few in omega arith;
        by = λ j l. h.by j (omega arith);
        hung = turn_one g allowed weight graph few small h.leaves k parent up depth h.hung some (record { face = near; edge = e; on = far }) (leaf_is there) lp lu ld there;
      }
