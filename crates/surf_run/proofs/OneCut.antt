-- A surface is cut open at a base in one way.
use Rattle.surf_answers.proofs.Common.{◌≡◌, ℕ, true, false, List, Ok, Err, sym, ◌∙◌, ap, arith, Mesh, IsSurface, ArePositive, count_below-same, edge_count, full_cut, Kind, full, trimmed, through, is_point, Outcome, CutsAt, IsCutAt, IsNearAt}
use Rattle.surf_opening.proofs.cuts.ChosenTrees.{openings_at_are_one}
use Rattle.surf_seams.specs.Through.{IsCutThrough}
use Rattle.surf_seams.proofs.AtBase.{openings_through_at_are_one, same_full, through_same}
use Rattle.surf_seams.proofs.Taking.{cuts_through_are_one}
use Rattle.surf_run.proofs.StepLaws.{IsOne}

module _ (mesh : Mesh) (lengths : List ℕ) (base : ℕ) (surface : IsSurface mesh) (long : ArePositive mesh lengths) where
  openings_are_one : (kind : Kind) (origins others : List ℕ) (faces other_faces : List (List ℕ)) → IsCutAt mesh lengths base kind origins faces →
      IsCutAt mesh lengths base kind others other_faces → (origins ≡ others) × (faces ≡ other_faces)
  openings_are_one full origins others faces other_faces x y =
      openings_at_are_one mesh lengths base x.trees y.trees false origins others faces other_faces surface long x.chosen y.chosen x.opened y.opened
  openings_are_one trimmed origins others faces other_faces x y =
      openings_at_are_one mesh lengths base x.trees y.trees true origins others faces other_faces surface long x.chosen y.chosen x.opened y.opened
  openings_are_one (through points) origins others faces other_faces x y =
      openings_through_at_are_one mesh lengths base x.trees y.trees (is_point points) origins others faces other_faces surface long x.chosen y.chosen x.opened y.opened

  -- a cut of two edges or more doesn't have fewer
  not_near : (kind : Kind) (origins : List ℕ) (faces : List (List ℕ)) (o : Outcome) → IsCutAt mesh lengths base kind origins faces → IsNearAt mesh lengths base kind o → ⊥
  not_near full origins faces o x y = y.near
  not_near trimmed origins faces o x y = y.near
  not_near (through points) origins faces o x y =
      let (cut, is, few) = y.near in
      let there : IsCutThrough mesh (full_cut mesh x.trees.tree x.trees.cotree) (is_point points) cut =
      through_same (same_full mesh lengths base x.trees y.trees surface long x.chosen y.chosen) is in
      let same = count_below-same (edge_count mesh) x.opened.cut cut
      (cuts_through_are_one mesh (full_cut mesh x.trees.tree x.trees.cotree) (is_point points) x.opened.cut cut x.opened.is_through there) in
      let some = x.opened.some in
      omega (arith, few, same, some)

  pub one_cut : (kind : Kind) → IsOne (CutsAt kind mesh lengths base)
  one_cut kind (Ok a) (Ok b) x y =
      let same = openings_are_one kind a.origins b.origins a.faces b.faces x y in
      ap (λ (origins : List ℕ). record { origins = origins; faces = a.faces }) same.0
      ∙ ap (λ (faces : List (List ℕ)). record { origins = b.origins; faces = faces }) same.1
  one_cut kind (Ok a) (Err p) x y = not_near kind a.origins a.faces p x y
  one_cut kind (Err o) (Ok b) x y = not_near kind b.origins b.faces o y x
  one_cut kind (Err o) (Err p) x y = x.is ∙ sym y.is
