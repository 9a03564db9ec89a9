-- Where the ends of the left edges are marked, and with each marked vertex its parent, the ends of all edges of the
-- trimmed cut are. Else the edge from some vertex without a mark to its parent is cut. No left edge is there, so another
-- cut edge leads to a child, which has no mark either, and so on without end.
use Rattle.std.proofs.Common.{◌≡◌, ◌≢◌, ℕ, zero, suc, ◌+◌, ◌<◌, ◌≤◌, inl, inr, sym, ap, ◌∙◌, Bool, true, false, eqb, eqb-true, arith, get_or}
use Rattle.surf_surfaces.proofs.Common.{list_any, cases_eq, cases_Bool, both_ways, or_cases, false_from_ne_true, Contains-get_or, Chain, primal, Tree, tree_edge, cells_of, tree_edges, is_left, Mesh, pair, edge_count, ends, touches, IsSurface, parity, sum_below}
use Rattle.surf_surfaces.proofs.meshes.CellLaws.{ends_below, joins_is}
use Rattle.surf_surfaces.proofs.meshes.EdgeLaws.{list_any_at, list_any_from}
use Rattle.surf_surfaces.proofs.walks.GraphWalkLaws.{closed_parity_even}
use Rattle.surf_opening.specs.ChosenCut.{AreDivided, full_cut, IsLargestEndless}
use Rattle.surf_opening.specs.OffTheCut.{AreMarked, HasMarkedEnds, CutEndsAreMarked, UnmarkedWalksAreNull, WalksAreNullOrMeetMarked}
use Rattle.surf_opening.specs.Rim.{along, back}
use Rattle.surf_opening.proofs.openings.ChosenOpenings.{leaves}
use Rattle.surf_opening.proofs.gluing.Cotrees.{ends_pair}
use Rattle.surf_opening.proofs.counts.CutCounts.{no_leaf_counted}
use Rattle.surf_opening.proofs.cuts.CutLists.{outside, outside_told, told_edge, edge_told}
use Rattle.surf_opening.proofs.cuts.OffTheCut.{flat_or_low, flat_is_boundary, walks_off_the_cut_are_null}
use Rattle.surf_opening.proofs.sides.Polygons.{among_pair}

-- no term is more than the sum
term_at_most : (n : ℕ) (f : ℕ → ℕ) (k : ℕ) → k < n → f k ≤ sum_below n f
term_at_most zero f k h = absurd (omega arith)
term_at_most (suc n) f k h = elim (cases_eq k n) [
  | inl same ↦ let here : f k ≡ f n = ap f same in omega arith
  | inr differ ↦ let below : f k ≤ sum_below n f = term_at_most n f k (omega arith) in omega arith
]

module _ {mesh : Mesh} (surface : IsSurface mesh) {tree cotree : Tree} (split : AreDivided mesh tree cotree)
    {marked : ℕ → Bool} (are : AreMarked mesh tree cotree marked) where
  -- the ends of the edge to the parent
  up_ends : (v : ℕ) → v < mesh.vertices → v ≢ tree.root → ends mesh (tree.up v) ≡ pair v (tree.parent v)
  up_ends v h ne =
      let t = split.tree_is in
      joins_is (ends mesh (tree.up v)) v (tree.parent v) (ends_below mesh surface.is_mesh (tree.up v) (t.up_in v h ne)).0
      (t.up_joins v h ne)

  end_marked : (e v w : ℕ) → e < edge_count mesh → ends mesh e ≡ pair v w → HasMarkedEnds mesh marked e →
      marked v ≡ true
  end_marked e v w h is both = elim (among_pair (ends_pair surface e h ∙ is)) [
    | along a b ↦ ap marked a ∙ both.0
    | back a b ↦ ap marked a ∙ both.1
  ]

  both_marked : (e v w : ℕ) → e < edge_count mesh → ends mesh e ≡ pair v w → marked v ≡ true → marked w ≡ true →
      HasMarkedEnds mesh marked e
  both_marked e v w h is v_marked w_marked = elim (among_pair (ends_pair surface e h ∙ is)) [
    | along a b ↦ (sym (ap marked a) ∙ v_marked, sym (ap marked b) ∙ w_marked)
    | back a b ↦ (sym (ap marked b) ∙ w_marked, sym (ap marked a) ∙ v_marked)
  ]

  -- an edge with both ends marked is not at a vertex that is not
  marked_ends_off : (e v : ℕ) → marked v ≡ false → HasMarkedEnds mesh marked e → touches v (ends mesh e) ≡ false
  marked_ends_off e v free both = false_from_ne_true (touches v (ends mesh e)) (λ at.
      elim (or_cases (eqb (ends mesh e).0 v) (eqb (ends mesh e).1 v) at) [
        | inl is ↦ both_ways (marked v) free (sym (ap marked (eqb-true (ends mesh e).0 v is)) ∙ both.0)
        | inr is ↦ both_ways (marked v) free (sym (ap marked (eqb-true (ends mesh e).1 v is)) ∙ both.1)
      ])

  module _ (cut : Chain) (largest : IsLargestEndless mesh (full_cut mesh tree cotree) cut) where
    -- a vertex that is not marked, though its edge to its parent is cut
    record IsLoose (v : ℕ) : Type 0 where
      inside : v < mesh.vertices
      not_root : v ≢ tree.root
      free : marked v ≡ false
      held : cut (tree.up v) ≡ true

    -- it has another cut edge, which leads to such a child
    loose_child : (v : ℕ) → IsLoose v → (n : ℕ) × IsLoose n × (tree.parent n ≡ v)
    loose_child v loose =
        let p = tree.parent v in
        let list = outside mesh cut in
        let told = outside_told surface cut in
        let c = told_edge surface list cut told v p (tree.up v) (split.tree_is.up_in v loose.inside loose.not_root)
        (up_ends v loose.inside loose.not_root) loose.held in
        let other = no_leaf_counted surface list cut told largest.no_end c.0 v p c.1 in
        let e = edge_told surface list cut told v other.1 (other.0, other.2) in
        child other.1 e.0 other.3 e.1 e.2 e.3
      where
        child : (y e : ℕ) → tree.parent v ≢ y → e < edge_count mesh → ends mesh e ≡ pair v y → cut e ≡ true →
            (n : ℕ) × IsLoose n × (tree.parent n ≡ v)
        child y e differ h is held =
            elim (or_cases (tree_edges mesh tree e) (is_left mesh tree cotree e) (largest.within e h held)) [
              | inr left ↦ absurd (both_ways (marked v) loose.free (end_marked e v y h is (are.left_ends e h left)))
              | inl in_tree ↦
                  let n = tree_edge (primal (cells_of mesh)) tree e in_tree in
                  elim (among_pair (sym (up_ends n.0 n.1 n.2) ∙ ap (λ e. ends mesh e) n.3 ∙ is)) [
                    | along a b ↦ absurd (differ (ap tree.parent a ∙ sym b))
                    | back a b ↦ (
                      n.0,
                      record {
                        inside = n.1;
                        not_root = n.2;
                        free = false_from_ne_true (marked n.0)
                            (λ on. both_ways (marked v) loose.free (ap marked a ∙ are.parents n.0 n.1 n.2 on));
                        held = ap cut n.3 ∙ held;
                      },
                      sym a,
                    )
                  ]
            ]

    abbrev bound : ℕ
    bound = sum_below mesh.vertices tree.rank

    -- and ranks rise from child to child, so there is none
    none_is_loose : (fuel v : ℕ) → bound < tree.rank v + fuel → IsLoose v → ⊥
    none_is_loose zero v deep loose =
        let most : tree.rank v ≤ bound = term_at_most mesh.vertices tree.rank v loose.inside in omega arith
    none_is_loose (suc fuel) v deep loose =
        let n = loose_child v loose in
        let falls : tree.rank (tree.parent n.0) < tree.rank n.0 =
        split.tree_is.rank_falls n.0 n.1.inside n.1.not_root in
        let same : tree.rank (tree.parent n.0) ≡ tree.rank v = ap tree.rank n.2 in
        none_is_loose fuel n.0 (omega arith) n.1

    cut_ends_marked : (e : ℕ) → e < edge_count mesh → cut e ≡ true → HasMarkedEnds mesh marked e
    cut_ends_marked e h held =
        elim (or_cases (tree_edges mesh tree e) (is_left mesh tree cotree e) (largest.within e h held)) [
          | inr left ↦ are.left_ends e h left
          | inl in_tree ↦
              let n = tree_edge (primal (cells_of mesh)) tree e in_tree in
              let is : ends mesh e ≡ pair n.0 (tree.parent n.0) =
              sym (ap (λ e. ends mesh e) n.3) ∙ up_ends n.0 n.1 n.2 in
              elim (cases_Bool (marked n.0)) [
                | inl on ↦ both_marked e n.0 (tree.parent n.0) h is on (are.parents n.0 n.1 n.2 on)
                | inr free ↦ absurd (none_is_loose (suc bound) n.0 (omega arith) (record {
                  inside = n.1;
                  not_root = n.2;
                  free = free;
                  held = ap cut n.3 ∙ held;
                }))
              ]
        ]

pub cut_ends_are_marked : CutEndsAreMarked
cut_ends_are_marked mesh tree cotree cut marked surface split low is are =
    cut_ends_marked surface split are cut (is.below_two low)

pub unmarked_walks_are_null : UnmarkedWalksAreNull
unmarked_walks_are_null mesh tree cotree marked walk surface split are closed free =
    elim (flat_or_low surface split) [
      | inl flat ↦
          flat_is_boundary surface split (parity mesh walk) (closed_parity_even mesh surface walk closed) flat
      | inr low ↦
          let l = leaves surface split true in
          walks_off_the_cut_are_null mesh tree cotree l.some_cut walk surface split l.some_chosen closed
          (λ i d below e h held. marked_ends_off surface split are e (get_or walk i d) (free i d below)
          (cut_ends_are_marked mesh tree cotree l.some_cut marked surface split low l.some_chosen are e h held))
    ]

pub walks_are_null_or_meet_marked : WalksAreNullOrMeetMarked
walks_are_null_or_meet_marked mesh tree cotree marked walk surface split are closed =
    elim (cases_Bool (list_any marked walk)) [
      | inl some ↦
          let k = list_any_at marked walk 0 some in
          inr (get_or walk k.0 0, Contains-get_or walk k.0 0 k.1, k.2)
      | inr none ↦ inl (unmarked_walks_are_null mesh tree cotree marked walk surface split are closed (λ i d below.
          false_from_ne_true (marked (get_or walk i d))
          (λ on. both_ways (list_any marked walk) none (list_any_from marked walk d i below on))))
    ]
