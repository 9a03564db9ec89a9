-- The cut through given vertices is in one piece, and each of these is on it where it has an edge.
use Rattle.std.proofs.Common.{◌≡◌, ◌≢◌, ℕ, zero, suc, ◌<◌, ◌≤◌, ◌⊎◌, inl, inr, sym, refl, subst, ap, ◌∙◌, cond, Bool, true, false, ◌||◌, eqb, arith, eqb-true, eq-eqb, ne_eqb}
use Rattle.surf_surfaces.proofs.Common.{cases_eq, cases_lt, cond-true, cond-false, or_cases, or_left, or_right, both_ways, Chain, primal, Tree, IsTree, cells_of, tree_edges, is_left, Mesh, edge_count, ends, touches, IsSurface, degree_in, one_of, up_in_tree, count_found}
use Rattle.surf_surfaces.proofs.meshes.CellLaws.{ends_below}
use Rattle.surf_opening.specs.ChosenCut.{AreDivided, full_cut, SameEdges}
use Rattle.surf_seams.specs.Through.{IsTakenBackTo, whole, taken, IsInOnePiece, IsOnCut}
use Rattle.surf_seams.specs.Laws.{CutsThroughAreConnected, PointsAreOnCut}
use Rattle.surf_seams.proofs.Taking.{degree_some, degree_found, loose_only, left_with, left_from, take_all, through_is_taken}

-- the ends of an edge that has a vertex
pub ends_at : (mesh : Mesh) (v e : ℕ) → touches v (ends mesh e) ≡ true →
    ((ends mesh e).0 ≡ v) ⊎ ((ends mesh e).1 ≡ v)
ends_at mesh v e h = elim (or_cases (eqb (ends mesh e).0 v) (eqb (ends mesh e).1 v) h) [
  | inl a ↦ inl (eqb-true (ends mesh e).0 v a)
  | inr b ↦ inr (eqb-true (ends mesh e).1 v b)
]

pub at_first : (mesh : Mesh) (v e : ℕ) → (ends mesh e).0 ≡ v → touches v (ends mesh e) ≡ true
at_first mesh v e h = or_left (eqb (ends mesh e).0 v) (eqb (ends mesh e).1 v) (eq-eqb (ends mesh e).0 v h)

pub at_second : (mesh : Mesh) (v e : ℕ) → (ends mesh e).1 ≡ v → touches v (ends mesh e) ≡ true
at_second mesh v e h = or_right (eqb (ends mesh e).0 v) (eqb (ends mesh e).1 v) (eq-eqb (ends mesh e).1 v h)

-- a test that tells a node and its parent alike tells all nodes alike
module _ (mesh : Mesh) (tree : Tree) (is : IsTree (primal (cells_of mesh)) tree) (test : ℕ → Bool)
    (same : (e : ℕ) → e < edge_count mesh → tree_edges mesh tree e ≡ true →
    test (ends mesh e).0 ≡ test (ends mesh e).1) where
  to_root : (steps v : ℕ) → v < mesh.vertices → tree.rank v < steps → test v ≡ test tree.root
  to_root zero v h few = absurd (omega arith)
  to_root (suc steps) v h few = elim (cases_eq v tree.root) [
    | inl root ↦ ap test root
    | inr other ↦
        let falls : tree.rank (tree.parent v) < tree.rank v = is.rank_falls v h other in
        let up = to_root steps (tree.parent v) (is.parent_in v h other) (omega arith) in
        let e = tree.up v in
        let s = same e (is.up_in v h other) (up_in_tree (primal (cells_of mesh)) tree v h other) in
        elim (one_of (primal (cells_of mesh)) v (tree.parent v) e (is.up_joins v h other)) [
          | inl a ↦ ap test (sym a.0) ∙ s ∙ ap test a.1 ∙ up
          | inr a ↦ ap test (sym a.1) ∙ sym s ∙ ap test a.0 ∙ up
        ]
  ]

  pub all_alike : (u v : ℕ) → u < mesh.vertices → v < mesh.vertices → test u ≡ test v
  all_alike u v h g =
      to_root (suc (tree.rank u)) u h (omega arith) ∙ sym (to_root (suc (tree.rank v)) v g (omega arith))

-- one bit where a number is n, and another test elsewhere
abbrev pub moved : ℕ → Bool → (ℕ → Bool) → ℕ → Bool
moved n b test v = cond (eqb v n) b (test v)

moved_here : (n : ℕ) (b : Bool) (test : ℕ → Bool) (v : ℕ) → v ≡ n → moved n b test v ≡ b
moved_here n b test v h = cond-true (eqb v n) b (test v) (eq-eqb v n h)

moved_else : (n : ℕ) (b : Bool) (test : ℕ → Bool) (v : ℕ) → v ≢ n → moved n b test v ≡ test v
moved_else n b test v h = cond-false (eqb v n) b (test v) (ne_eqb v n h)

module _ {mesh : Mesh} (surface : IsSurface mesh) where
  pub ends_differ : (e : ℕ) → e < edge_count mesh → (ends mesh e).0 ≢ (ends mesh e).1
  ends_differ e h same = let less : (ends mesh e).0 < (ends mesh e).1 = (ends_below mesh surface.is_mesh e h).0 in
      omega arith

  first_in : (e : ℕ) → e < edge_count mesh → (ends mesh e).0 < mesh.vertices
  first_in e h =
      let less : (ends mesh e).0 < (ends mesh e).1 = (ends_below mesh surface.is_mesh e h).0 in
      let most : (ends mesh e).1 < mesh.vertices = (ends_below mesh surface.is_mesh e h).1 in
      omega arith

  -- the other end of the only edge at a vertex
  other_end : (e p : ℕ) → touches p (ends mesh e) ≡ true →
      (q : ℕ) × ((((ends mesh e).0 ≡ p) × ((ends mesh e).1 ≡ q)) ⊎ (((ends mesh e).0 ≡ q) × ((ends mesh e).1 ≡ p)))
  other_end e p h = elim (ends_at mesh p e h) [
    | inl a ↦ ((ends mesh e).1, inl (a, refl))
    | inr b ↦ ((ends mesh e).0, inr (refl, b))
  ]

  module _ {tree cotree : Tree} (split : AreDivided mesh tree cotree) where
    abbrev full : Chain
    full = full_cut mesh tree cotree

    tree_in_full : (e : ℕ) → tree_edges mesh tree e ≡ true → full e ≡ true
    tree_in_full e h = or_left (tree_edges mesh tree e) (is_left mesh tree cotree e) h

    -- what is left by taking back is in one piece
    pub taken_connected : {points : ℕ → Bool} {cut : Chain} → IsTakenBackTo mesh points full cut →
        IsInOnePiece mesh cut
    taken_connected (whole cut same) test alike e h e_in h_in held_e held_h =
        all_alike mesh tree split.tree_is test
        (λ k k_in in_tree'. alike k k_in (same k k_in ∙ tree_in_full k in_tree')) (ends mesh e).0 (ends mesh h).0
        (first_in e e_in) (first_in h h_in)
    taken_connected {points} (taken {cut} next l p before loose same) test alike e h e_in h_in held_e held_h =
        let q = other_end l p loose.its_end in
        let z = moved p (test q.0) test in
        let off : (k : ℕ) → k < edge_count mesh → cut k ≡ true → k ≢ l → ((ends mesh k).0 ≢ p) × ((ends mesh k).1 ≢ p) =
        λ k k_in held differ. (
          (λ at_p. differ (loose_only mesh points cut l p k loose k_in held (at_first mesh p k at_p))),
          (λ at_p. differ (loose_only mesh points cut l p k loose k_in held (at_second mesh p k at_p))),
        ) in
        let q_apart : q.0 ≢ p = λ is. ends_differ l loose.is_edge (elim q.1 [
          | inl a ↦ a.0 ∙ sym is ∙ sym a.1
          | inr a ↦ a.0 ∙ is ∙ sym a.1
        ]) in
        let z_alike : (k : ℕ) → k < edge_count mesh → cut k ≡ true → z (ends mesh k).0 ≡ z (ends mesh k).1 =
        λ k k_in held. elim (cases_eq k l) [
          | inl is ↦ subst (λ k. z (ends mesh k).0 ≡ z (ends mesh k).1) (sym is) (elim q.1 [
            | inl a ↦ moved_here p (test q.0) test (ends mesh l).0 a.0
                ∙ sym (ap test a.1)
                ∙ sym (moved_else p (test q.0) test (ends mesh l).1 (λ s. q_apart (sym a.1 ∙ s)))
            | inr a ↦ moved_else p (test q.0) test (ends mesh l).0 (λ s. q_apart (sym a.0 ∙ s))
                ∙ ap test a.0
                ∙ sym (moved_here p (test q.0) test (ends mesh l).1 a.1)
          ])
          | inr differ ↦
              let apart = off k k_in held differ in
              moved_else p (test q.0) test (ends mesh k).0 apart.0
              ∙ alike k k_in (left_with mesh cut next l k same k_in held differ)
              ∙ sym (moved_else p (test q.0) test (ends mesh k).1 apart.1)
        ] in
        let a = left_from mesh cut next l e same e_in held_e in
        let b = left_from mesh cut next l h same h_in held_h in
        sym (moved_else p (test q.0) test (ends mesh e).0 (off e e_in a.0 a.1).0)
        ∙ taken_connected before z z_alike e h e_in h_in a.0 b.0
        ∙ moved_else p (test q.0) test (ends mesh h).0 (off h h_in b.0 b.1).0

    -- in a set in one piece that has an edge, there is no vertex set that none of its edges is at, but one
    module _ {cut : Chain} (piece : IsInOnePiece mesh cut) (test : ℕ → Bool) where
      pub not_both : ((e : ℕ) → e < edge_count mesh → cut e ≡ true → test (ends mesh e).0 ≡ test (ends mesh e).1) →
          (e h : ℕ) → e < edge_count mesh → h < edge_count mesh → cut e ≡ true → cut h ≡ true →
          test (ends mesh e).0 ≡ true → test (ends mesh h).0 ≡ false → ⊥
      not_both alike e h e_in h_in held_e held_h yes_e no_h =
          both_ways (test (ends mesh h).0) no_h (sym (piece test alike e h e_in h_in held_e held_h) ∙ yes_e)

    -- the full cut is at each vertex, where it has an edge
    full_at : (cut : Chain) → SameEdges mesh cut full → (k : ℕ) → k < edge_count mesh → (v : ℕ) → v < mesh.vertices →
        IsOnCut mesh cut v
    full_at cut same k k_in v h = elim (cases_lt 0 (degree_in mesh cut v)) [
      | inl some ↦ degree_found mesh cut v (omega arith)
      | inr none ↦
          let off : (e : ℕ) → e < edge_count mesh → cut e ≡ true → touches v (ends mesh e) ≡ true → ⊥ =
          λ e e_in held end. let some : 1 ≤ degree_in mesh cut v = degree_some mesh cut v e e_in held end in
          (let none' : degree_in mesh cut v ≤ 0 = none in omega arith) in
          let test = λ (x : ℕ). eqb x v in
          let alike = all_alike mesh tree split.tree_is test (λ e e_in in_tree'.
          let held = same e e_in ∙ tree_in_full e in_tree' in
          ne_eqb (ends mesh e).0 v (λ s. off e e_in held (at_first mesh v e s))
          ∙ sym (ne_eqb (ends mesh e).1 v (λ s. off e e_in held (at_second mesh v e s)))) in
          let here : test v ≡ true = eq-eqb v v refl in
          let a = first_in k k_in in
          let b = (ends_below mesh surface.is_mesh k k_in).1 in
          let at_a : (ends mesh k).0 ≡ v = eqb-true (ends mesh k).0 v (alike (ends mesh k).0 v a h ∙ here) in
          let at_b : (ends mesh k).1 ≡ v = eqb-true (ends mesh k).1 v (alike (ends mesh k).1 v b h ∙ here) in
          absurd (ends_differ k k_in (at_a ∙ sym at_b))
    ]

    -- each point is on what is left, where that has an edge
    pub taken_at : {points : ℕ → Bool} {cut : Chain} → IsTakenBackTo mesh points full cut → (k : ℕ) →
        k < edge_count mesh → cut k ≡ true → (v : ℕ) → v < mesh.vertices → points v ≡ true → IsOnCut mesh cut v
    taken_at (whole cut same) k k_in held v h is = full_at cut same k k_in v h
    taken_at {points} (taken {cut} next l p before loose same) k k_in held v h is =
        let was = left_from mesh cut next l k same k_in held in
        let on = taken_at before k k_in was.0 v h is in
        elim (cases_eq on.0 l) [
          | inr differ ↦ (on.0, on.1, left_with mesh cut next l on.0 same on.1 on.2 differ, on.3)
          | inl first ↦ elim (cases_lt 0 (degree_in mesh next v)) [
            | inl some ↦ degree_found mesh next v (omega arith)
            | inr none ↦
                let v_apart : v ≢ p = λ s. both_ways (points p) loose.no_point (ap points (sym s) ∙ is) in
                let at_v : touches v (ends mesh l) ≡ true = ap (λ e. touches v (ends mesh e)) (sym first) ∙ on.3 in
                let test = λ (x : ℕ). eqb x p || eqb x v in
                let off : (e : ℕ) → e < edge_count mesh → cut e ≡ true → e ≢ l → (x : ℕ) →
                touches x (ends mesh e) ≡ true → test x ≡ false = λ e e_in held differ x end.
                off_both x p v
                (λ s. differ (loose_only mesh points cut l p e loose e_in held
                (ap (λ x. touches x (ends mesh e)) (sym s) ∙ end)))
                (λ s. let some : 1 ≤ degree_in mesh next v = degree_some mesh next v e e_in
                (left_with mesh cut next l e same e_in held differ)
                (ap (λ x. touches x (ends mesh e)) (sym s) ∙ end) in
                (let none' : degree_in mesh next v ≤ 0 = none in omega arith)) in
                let on_l : (test (ends mesh l).0 ≡ true) × (test (ends mesh l).1 ≡ true) =
                both_on l p v loose.is_edge v_apart loose.its_end at_v in
                absurd (not_both (taken_connected before) test
                (λ e e_in held. elim (cases_eq e l) [
                  | inl s ↦ subst (λ e. test (ends mesh e).0 ≡ test (ends mesh e).1) (sym s) (on_l.0 ∙ sym on_l.1)
                  | inr differ ↦ off e e_in held differ (ends mesh e).0 (at_first mesh (ends mesh e).0 e refl)
                      ∙ sym (off e e_in held differ (ends mesh e).1 (at_second mesh (ends mesh e).1 e refl))
                ])
                l k loose.is_edge k_in loose.is_cut was.0 on_l.0
                (off k k_in was.0 was.1 (ends mesh k).0 (at_first mesh (ends mesh k).0 k refl)))
          ]
        ]
      where
        off_both : (x p v : ℕ) → x ≢ p → x ≢ v → (eqb x p || eqb x v) ≡ false
        off_both x p v a b = rw (ne_eqb x p a, ne_eqb x v b) refl

        both_on : (l p v : ℕ) → l < edge_count mesh → v ≢ p → touches p (ends mesh l) ≡ true →
            touches v (ends mesh l) ≡ true →
            ((eqb (ends mesh l).0 p || eqb (ends mesh l).0 v) ≡ true)
            × ((eqb (ends mesh l).1 p || eqb (ends mesh l).1 v) ≡ true)
        both_on l p v l_in apart at_p at_v = elim (ends_at mesh p l at_p) [
          | inl a ↦ elim (ends_at mesh v l at_v) [
            | inl b ↦ absurd (apart (sym b ∙ a))
            | inr b ↦ (
              or_left (eqb (ends mesh l).0 p) (eqb (ends mesh l).0 v) (eq-eqb (ends mesh l).0 p a),
              or_right (eqb (ends mesh l).1 p) (eqb (ends mesh l).1 v) (eq-eqb (ends mesh l).1 v b),
            )
          ]
          | inr a ↦ elim (ends_at mesh v l at_v) [
            | inr b ↦ absurd (apart (sym b ∙ a))
            | inl b ↦ (
              or_right (eqb (ends mesh l).0 p) (eqb (ends mesh l).0 v) (eq-eqb (ends mesh l).0 v b),
              or_left (eqb (ends mesh l).1 p) (eqb (ends mesh l).1 v) (eq-eqb (ends mesh l).1 p a),
            )
          ]
        ]

pub cuts_through_are_connected : CutsThroughAreConnected
cuts_through_are_connected mesh tree cotree points cut surface split through test alike e h e_in h_in held_e held_h =
    let out = take_all mesh points (full_cut mesh tree cotree) in
    let same = through_is_taken mesh points (full_cut mesh tree cotree) cut through in
    taken_connected surface split out.is_taken test (λ k k_in held. alike k k_in (same k k_in ∙ held)) e h e_in h_in
    (sym (same e e_in) ∙ held_e) (sym (same h h_in) ∙ held_h)

pub points_are_on_cut : PointsAreOnCut
points_are_on_cut mesh tree cotree points cut v surface split through some h is =
    let out = take_all mesh points (full_cut mesh tree cotree) in
    let same = through_is_taken mesh points (full_cut mesh tree cotree) cut through in
    let k = count_found (edge_count mesh) cut some in
    let on = taken_at surface split out.is_taken k.0 k.1 (sym (same k.0 k.1) ∙ k.2) v h is in
    (on.0, on.1, same on.0 on.1 ∙ on.2, on.3)
