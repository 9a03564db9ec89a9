-- Where χ is 2, one point alone has no cut, and two that an edge of the full cut joins have that edge.
use Rattle.std.proofs.Common.{◌≡◌, ◌≢◌, ℕ, ◌<◌, ◌≤◌, ◌⊎◌, inl, inr, sym, ap, ◌∙◌, Bool, true, false, ◌&&◌, eqb, arith, eqb-true, eq-eqb}
use Rattle.surf_surfaces.proofs.Common.{cases_Bool, and_from, both_ways, xor, count_below, primal, between, Tree, IsTree, on_path, cells_of, tree_edges, split_of, Mesh, edge_count, ends, touches, IsSurface, tree_edge, path_step, count_mono}
use Rattle.surf_z2.proofs.ParityLaws.{xor_comm, xor-same, xor_back}
use Rattle.surf_z2.proofs.Sums.{count_below-none, count_below-one}
use Rattle.surf_opening.specs.Laws.{cut_count}
use Rattle.surf_opening.proofs.counts.CutCounts.{spheres_are_cut_along_trees}
use Rattle.surf_opening.proofs.cuts.CutLists.{full_is}
use Rattle.surf_seams.specs.Laws.{OnePointIsNotCut, JoinedPointsAreShort}
use Rattle.surf_seams.proofs.Ways.{up_ends, cuts_through_are_ways}

-- there is no way from a vertex to itself
no_way : (tree : Tree) (u v e : ℕ) → u ≡ v → between tree u v e ≡ false
no_way tree u v e same = ap (λ u. between tree u v e) same ∙ xor-same (on_path tree v e)

way_turned : (tree : Tree) (u v e : ℕ) → between tree u v e ≡ between tree v u e
way_turned tree u v e = xor_comm (on_path tree u e) (on_path tree v e)

pub one_point_is_not_cut : OnePointIsNotCut
one_point_is_not_cut mesh tree cotree points cut surface split flat through one =
    count_below-none (edge_count mesh) cut (λ e h. elim (cases_Bool (cut e)) [
      | inr out ↦ out
      | inl held ↦
          let on = (cuts_through_are_ways mesh tree cotree points cut surface split flat through e h).0 held in
          absurd (both_ways (between tree on.0 on.1 e)
          (no_way tree on.0 on.1 e (one on.0 on.1 on.2 on.3 on.4 on.5)) on.6)
    ])

module _ {mesh : Mesh} (surface : IsSurface mesh) {tree : Tree} (ok : IsTree (primal (cells_of mesh)) tree) where
  -- the way from a vertex to its parent
  up_way : (n e : ℕ) → n < mesh.vertices → n ≢ tree.root → between tree n (tree.parent n) e ≡ true → e ≡ tree.up n
  up_way n e h nr held = sym (eqb-true (tree.up n) e
      (sym (xor_back (eqb (tree.up n) e) (on_path tree (tree.parent n) e))
      ∙ ap (λ b. xor b (on_path tree (tree.parent n) e)) (sym (path_step (primal (cells_of mesh)) tree ok n e h nr))
      ∙ held))

  -- the way between the ends of an edge of the tree
  joined_way : (l u v e : ℕ) → tree_edges mesh tree l ≡ true → touches u (ends mesh l) ≡ true →
      touches v (ends mesh l) ≡ true → u ≢ v → between tree u v e ≡ true → e ≡ l
  joined_way l u v e in_tree' at_u at_v apart held =
      let n = tree_edge (primal (cells_of mesh)) tree l in_tree' in
      let end_u = up_ends surface ok n.0 u n.1 n.2 (ap (λ e. touches u (ends mesh e)) n.3 ∙ at_u) in
      let end_v = up_ends surface ok n.0 v n.1 n.2 (ap (λ e. touches v (ends mesh e)) n.3 ∙ at_v) in
      elim end_u [
        | inl a ↦ elim end_v [
          | inl b ↦ absurd (apart (a ∙ sym b))
          | inr b ↦ up_way n.0 e n.1 n.2
              (ap (λ u. between tree u (tree.parent n.0) e) (sym a) ∙ ap (λ v. between tree u v e) (sym b) ∙ held) ∙ n.3
        ]
        | inr a ↦ elim end_v [
          | inr b ↦ absurd (apart (a ∙ sym b))
          | inl b ↦ up_way n.0 e n.1 n.2
              (ap (λ v. between tree v (tree.parent n.0) e) (sym b) ∙ ap (λ u. between tree v u e) (sym a)
              ∙ way_turned tree v u e ∙ held) ∙ n.3
        ]
      ]

pub joined_points_are_short : JoinedPointsAreShort
joined_points_are_short mesh tree cotree points cut u v l surface split flat through only l_in l_full at_u at_v apart =
    let in_tree' : tree_edges mesh tree l ≡ true =
    spheres_are_cut_along_trees mesh (split_of mesh tree cotree) surface split flat l l_in
    ∙ sym (full_is mesh tree cotree split l l_in) ∙ l_full in
    let way = joined_way surface split.tree_is l in
    let is_l : (e : ℕ) → e < edge_count mesh → cut e ≡ true → e ≡ l = λ e h held.
    let on = (cuts_through_are_ways mesh tree cotree points cut surface split flat through e h).0 held in
    elim (only on.0 on.2 on.4) [
      | inl a ↦ elim (only on.1 on.3 on.5) [
        | inl b ↦ absurd (both_ways (between tree on.0 on.1 e) (no_way tree on.0 on.1 e (a ∙ sym b)) on.6)
        | inr b ↦ way u v e in_tree' at_u at_v apart
            (ap (λ x. between tree x v e) (sym a) ∙ ap (λ y. between tree on.0 y e) (sym b) ∙ on.6)
      ]
      | inr a ↦ elim (only on.1 on.3 on.5) [
        | inr b ↦ absurd (both_ways (between tree on.0 on.1 e) (no_way tree on.0 on.1 e (a ∙ sym b)) on.6)
        | inl b ↦ way u v e in_tree' at_u at_v apart
            (way_turned tree u v e ∙ ap (λ x. between tree x u e) (sym a) ∙ ap (λ y. between tree on.0 y e) (sym b)
            ∙ on.6)
      ]
    ] in
    let few : cut_count mesh cut ≤ count_below (edge_count mesh) (λ k. eqb k l && true) =
    count_mono (edge_count mesh) cut (λ k. eqb k l && true)
    (λ e h held. and_from (eqb e l) true (eq-eqb e l (is_l e h held)) Rattle.std.proofs.Common.refl) in
    let one : count_below (edge_count mesh) (λ k. eqb k l && true) ≡ 1 = count_below-one (edge_count mesh) l true l_in in
    omega arith
