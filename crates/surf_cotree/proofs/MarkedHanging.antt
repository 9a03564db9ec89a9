-- For marked edges there are tables in which all leaves are hung.
use Rattle.surf_cotree.proofs.Common.{ℕ, zero, suc, ◌<◌, ◌≤◌, ◌≡◌, ◌≢◌, ◌+◌, refl, sym, ap, ◌∙◌, subst, arith, inl, inr, List, length, set, Bool, true, false, not, eqb, eq-eqb, ne_eqb, get_or-set_same, get_or-set_other, length-set, cases_eq, cases_Bool, and_parts, false≢true, Graph, IsGraph, joins, joins_turned, nobody, at, reached, spanned_tree, Leaf, leaf_at, left_after, IsLeaf, IsHung, AreMarked}
use Rattle.surf_cotree.proofs.Growing.{Connects, all_reached}
use Rattle.surf_cotree.proofs.Hanging.{unreached, hang_none, hang_one, hang_fits}
use Rattle.surf_cotree.proofs.Marks.{marks_hung}

-- tables in which the first k leaves are still to be hung
record Tables (g : Graph) (allowed : ℕ → Bool) (weight : ℕ → ℕ) (list : List Leaf) (k : ℕ) (parent up depth : List ℕ) : Type 0 where
  pub hung : IsHung g allowed weight list k parent up depth
  pub parents : length parent ≡ g.nodes
  pub ups : length up ≡ g.nodes
  pub depths : length depth ≡ g.nodes

-- tables in which all are hung, with marks on the edges that lead up
pub record AreHungAll (g : Graph) (allowed : ℕ → Bool) (weight : ℕ → ℕ) (list : List Leaf) (marks : List Bool) : Type 0 where
  pub parent : List ℕ
  pub up : List ℕ
  pub depth : List ℕ
  pub parents : length parent ≡ g.nodes
  pub ups : length up ≡ g.nodes
  pub depths : length depth ≡ g.nodes
  pub hung : IsHung g allowed weight list 0 parent up depth
  pub marked : AreMarked g.nodes allowed up marks

left_before : (allowed : ℕ → Bool) (list : List Leaf) (n m e : ℕ) → n ≤ m → left_after allowed list m e ≡ true → left_after allowed list n e ≡ true
left_before allowed list n zero e le h = let is : n ≡ 0 = omega arith in subst (λ j. left_after allowed list j e ≡ true) (sym is) h
left_before allowed list n (suc m) e le h = elim (cases_eq n (suc m)) [
  | inl same ↦ subst (λ j. left_after allowed list j e ≡ true) (sym same) h
  | inr ne ↦ left_before allowed list n m e (omega arith) (and_parts (left_after allowed list m e) (not (eqb e (leaf_at list m).edge)) h).0
]

module _ (g : Graph) (allowed : ℕ → Bool) (weight : ℕ → ℕ) (graph : IsGraph g) (few : g.edges ≤ nobody) (small : g.nodes ≤ nobody) (joined : Connects g allowed) (list : List Leaf) where
  -- a turn in which the node below is reached
  module _ (k : ℕ) (parent up depth : List ℕ) (t : Tables g allowed weight list (suc k) parent up depth) where
    abbrev face : ℕ
    face = (leaf_at list k).face

    abbrev edge : ℕ
    edge = (leaf_at list k).edge

    abbrev on : ℕ
    on = (leaf_at list k).on

    leaf : IsLeaf g allowed list k
    leaf = t.hung.leaf k (omega arith)

    out : reached depth face ≡ false
    out = unreached g allowed weight graph few small list k parent up depth t.hung

    passed : reached depth on ≡ false → Tables g allowed weight list k parent up depth
    passed away = record { hung = hang_none g allowed weight graph few small list k parent up depth t.hung away; parents = t.parents; ups = t.ups; depths = t.depths }

    next : reached depth on ≡ true → Tables g allowed weight list k (set parent face on) (set up face edge) (set depth face (at depth on + 1))
    next there = record {
      hung = hang_one g allowed weight graph few small list k parent up depth t.hung there t.parents t.ups t.depths;
      parents = length-set parent face on ∙ t.parents;
      ups = length-set up face edge ∙ t.ups;
      depths = length-set depth face (at depth on + 1) ∙ t.depths;
    }

    elsewhere : (v : ℕ) → v ≢ face → reached (set depth face (at depth on + 1)) v ≡ reached depth v
    elsewhere v ne = ap (λ d. not (eqb d nobody)) (get_or-set_other depth face v (at depth on + 1) 0 ne)

    here : reached depth on ≡ true → reached (set depth face (at depth on + 1)) face ≡ true
    here there =
        let fits : at depth on + 1 < g.nodes = hang_fits g allowed weight graph few small list k parent up depth t.hung there t.parents t.ups t.depths in
        let some : at depth on + 1 ≢ nobody = omega arith in
        let l = leaf.node_in in
        let long = t.depths in
        ap (λ d. not (eqb d nobody)) (get_or-set_same depth face (at depth on + 1) 0 (omega arith)) ∙ ap not (ne_eqb (at depth on + 1) nobody some)

    -- it isn't one of the leaves that were taken before
    apart : (j : ℕ) → j < k → (leaf_at list j).face ≢ on
    apart j l same =
        let other : IsLeaf g allowed list j = t.hung.leaf j (omega arith) in
        let was : left_after allowed list (suc j) edge ≡ true = left_before allowed list (suc j) k edge (omega arith) leaf.hangs.is_left in
        let both : (left_after allowed list j edge ≡ true) × (not (eqb edge (leaf_at list j).edge) ≡ true) = and_parts (left_after allowed list j edge) (not (eqb edge (leaf_at list j).edge)) was in
        let join : joins g (leaf_at list j).face face edge ≡ true = subst (λ v. joins g v face edge ≡ true) (sym same) (joins_turned g face on edge leaf.hangs.joined) in
        let is : edge ≡ (leaf_at list j).edge = other.hangs.only edge face leaf.hangs.edge_in both.0 join in
        false≢true (sym (rw (eq-eqb edge (leaf_at list j).edge is)) ∙ both.1)

  -- a node that is no leaf to be hung is reached, since in the end all are
  stays_out : (k v : ℕ) (parent up depth : List ℕ) → Tables g allowed weight list k parent up depth → v < g.nodes → reached depth v ≡ false → ((j : ℕ) → j < k → (leaf_at list j).face ≢ v) → ⊥
  stays_out zero v parent up depth t lv away no_leaf =
      false≢true (sym away ∙ all_reached g allowed weight graph few t.hung.light (reached depth) (spanned_tree 0 parent up depth) t.hung.heap _ t.hung.prim joined t.hung.empty v lv)
  stays_out (suc k) v parent up depth t lv away no_leaf = elim (cases_Bool (reached depth (leaf_at list k).on)) [
    | inl there ↦
        let ne : v ≢ (leaf_at list k).face = λ is. no_leaf k (omega arith) (sym is) in
        stays_out k v _ _ _ (next k parent up depth t there) lv (elsewhere k parent up depth t v ne ∙ away) (λ j l. no_leaf j (omega arith))
    | inr none ↦ stays_out k v parent up depth (passed k parent up depth t none) lv away (λ j l. no_leaf j (omega arith))
  ]

  on_reached : (k : ℕ) (parent up depth : List ℕ) → Tables g allowed weight list (suc k) parent up depth → reached depth (leaf_at list k).on ≡ true
  on_reached k parent up depth t = elim (cases_Bool (reached depth (leaf_at list k).on)) [
    | inl there ↦ there
    | inr away ↦ absurd (stays_out k (leaf_at list k).on parent up depth (passed k parent up depth t away) (leaf k parent up depth t).hangs.other_in away (apart k parent up depth t))
  ]

  -- the leaves are hung, the last first
  hang_marked : (k : ℕ) (parent up depth : List ℕ) (marks : List Bool) → Tables g allowed weight list k parent up depth → ((f : ℕ) → f < g.nodes → reached depth f ≡ false → at up f ≡ nobody) →
      AreMarked g.nodes (left_after allowed list k) up marks → AreHungAll g allowed weight list marks
  hang_marked zero parent up depth marks t free m = record { parent = parent; up = up; depth = depth; parents = t.parents; ups = t.ups; depths = t.depths; hung = t.hung; marked = m }
  hang_marked (suc k) parent up depth marks t free m =
      let face = (leaf_at list k).face in
      let edge = (leaf_at list k).edge in
      let there = on_reached k parent up depth t in
      let lf : face < g.nodes = (leaf k parent up depth t).node_in in
      let lu : face < length up = let long = t.ups in omega arith in
      let le : edge < g.edges = (leaf k parent up depth t).hangs.edge_in in
      let some : edge ≢ nobody = omega arith in
      hang_marked k _ _ _ marks (next k parent up depth t there)
      (λ f l away. elim (cases_eq f face) [
        | inl is ↦ absurd (false≢true (sym away ∙ (ap (reached (set depth face (at depth (leaf_at list k).on + 1))) is ∙ here k parent up depth t there)))
        | inr ne ↦ get_or-set_other up face f edge 0 ne ∙ free f l (sym (elsewhere k parent up depth t f ne) ∙ away)
      ])
      (marks_hung g.nodes up face edge lf lu (free face lf (out k parent up depth t)) some allowed list k marks refl m)

  pub hung_all_marked : (parent up depth : List ℕ) (marks : List Bool) (k : ℕ) → IsHung g allowed weight list k parent up depth → length parent ≡ g.nodes → length up ≡ g.nodes → length depth ≡ g.nodes → ((f : ℕ) → f < g.nodes → reached depth f ≡ false → at up f ≡ nobody) →
      AreMarked g.nodes (left_after allowed list k) up marks → AreHungAll g allowed weight list marks
  hung_all_marked parent up depth marks k hung lp lu ld free m = hang_marked k parent up depth marks (record { hung = hung; parents = lp; ups = lu; depths = ld }) free m
