-- What is opened along the full cut, or the trimmed one, is the chosen opening.
use Rattle.surf_slit.proofs.Common.{◌≡◌, ℕ, ◌+◌, ◌<◌, not, sym, ap, ◌∙◌, List, length, Bool, true, false, Result, arith, All, IfOk, All-contains, IfOk-weaker, Tree, cotree_edges, Mesh, face_count, edge_count, IsSurface, IsOpening, IsOpenedBy, Side, IsUncut}
use Rattle.surf_cutter.proofs.Common.{AreDivided, AreInOrder, TellsCut, IsDualTree, some_list, full_cuts_are_chosen, trimmed_cuts_are_chosen, chosen_are_openings, full_openings_are_counted, full_told, openings_through_are_openings, points_are_on_border, OpensToDisc, Kind, full, trimmed, through, points_of, is_point, IsOpeningOf, HaveCopiesOnBorder, OpenMesh, IsOpenedInOrder, MarksCotree, IsHeld, IsChosenFor, IsChosenCut, AreTurnedOver, is_cut, IsTrimmedFrom, HasEndedBy}
use Rattle.surf_opening.specs.Named.{whole}
use Rattle.surf_opening.proofs.cuts.NamedEdges.{forget}
use Rattle.surf_cotree.specs.Grown.{IsMarked, IsGrown}
use Rattle.surf_cotree.specs.Tables.{CotreeTables, cotree_of}
use Rattle.surf_cutter.proofs.Takes.{point_found}
use Rattle.surf_cutter.proofs.Trims.{told_same}

-- the flags mark all edges but those of a tree of the faces that grows face by face
abbrev pub IsFullCut : Mesh → List Bool → Type 0
IsFullCut mesh cut = (tree : List (ℕ × ℕ)) × IsDualTree (Side mesh) tree × TellsCut mesh tree (is_cut cut)

module _ {mesh : Mesh} (surface : IsSurface mesh) (held cut : List Bool) (flags : length held ≡ edge_count mesh) (over : AreTurnedOver held cut) where
  -- a list of the edges of the tree tells the full cut
  told : {tree cotree : Tree} → (split : AreDivided mesh tree cotree) → MarksCotree mesh cotree held → TellsCut mesh (some_list surface split).0 (is_cut cut)
  told {tree} {cotree} split marks =
      let l = some_list surface split in
      told_same mesh l.0 (λ e. not (cotree_edges mesh cotree e)) (is_cut cut) (λ e h. sym (over.1 e (omega arith) ∙ ap not (marks e h))) (full_told surface cotree l.0 l.1.its_edges)

  pub is_full : IsHeld mesh held → IsFullCut mesh cut
  is_full is = let l = some_list surface is.2 in (l.0, l.1.grows, told is.2 is.3)

  module _ {origins : List ℕ} {faces : List (List ℕ)} where
    pub full_chosen : IsOpenedBy mesh (IsUncut mesh cut) origins faces → AreInOrder mesh origins faces → IsChosenFor mesh held full (record { origins = origins; faces = faces })
    full_chosen opened order tree cotree split marks =
        let l = some_list surface split in
        record { cut = is_cut cut; is_chosen = full_cuts_are_chosen mesh tree cotree l.0 (is_cut cut) surface split l.1 (told split marks); opened = opened; in_order = order }

    pub trimmed_chosen : (less : List Bool) → IsTrimmedFrom mesh cut less → HasEndedBy mesh less → IsOpenedBy mesh (IsUncut mesh less) origins faces → AreInOrder mesh origins faces → IsChosenFor mesh held trimmed (record { origins = origins; faces = faces })
    trimmed_chosen less steps ended opened order tree cotree split marks =
        let l = some_list surface split in
        let t = steps l.0 l.0 whole (told split marks) in
        record { cut = is_cut less; is_chosen = trimmed_cuts_are_chosen mesh tree cotree l.0 t.0 (is_cut less) surface split l.1 t.1 t.2 ended; opened = opened; in_order = order }

-- the full cut opens the surface to a disc, and so does what is left of it by trimming
pub full_opens : {mesh : Mesh} (cut : List Bool) → IsFullCut mesh cut → OpensToDisc mesh cut
full_opens cut all = (all.0, all.0, all.1, forget whole, all.2)

pub trimmed_opens : {mesh : Mesh} (cut less : List Bool) → IsFullCut mesh cut → IsTrimmedFrom mesh cut less → OpensToDisc mesh less
trimmed_opens cut less all steps = let t = steps all.0 all.0 whole all.2 in (all.0, t.0, all.1, forget t.1, t.2)

-- the opening along a cut of any kind is an opening
pub kinds_are_openings : (mesh : Mesh) (tree cotree : Tree) (kind : Kind) (origins : List ℕ) (faces : List (List ℕ)) → IsSurface mesh → AreDivided mesh tree cotree →
    IsOpeningOf mesh tree cotree kind origins faces → IsOpening mesh origins faces
kinds_are_openings mesh tree cotree full origins faces surface split is = chosen_are_openings mesh tree cotree false origins faces surface split is
kinds_are_openings mesh tree cotree trimmed origins faces surface split is = chosen_are_openings mesh tree cotree true origins faces surface split is
kinds_are_openings mesh tree cotree (through points) origins faces surface split is = openings_through_are_openings mesh tree cotree (is_point points) origins faces surface split is

-- and has each vertex that the cut goes through on the border
pub points_on_border : (mesh : Mesh) (tree cotree : Tree) (kind : Kind) (origins : List ℕ) (faces : List (List ℕ)) → IsSurface mesh → AreDivided mesh tree cotree →
    All (λ v. v < mesh.vertices) (points_of kind) → IsOpeningOf mesh tree cotree kind origins faces → HaveCopiesOnBorder kind origins faces
points_on_border mesh tree cotree full origins faces surface split inside is v (k, none, _) = absurd (omega (arith, none))
points_on_border mesh tree cotree trimmed origins faces surface split inside is v (k, none, _) = absurd (omega (arith, none))
points_on_border mesh tree cotree (through points) origins faces surface split inside is v has =
    points_are_on_border mesh tree cotree (is_point points) origins faces v surface split is (All-contains (λ v. v < mesh.vertices) points v inside has) (point_found points v has)

-- what is opened along a chosen cut is an opening
pub chosen_is_opening : {mesh : Mesh} → IsSurface mesh → {held cut : List Bool} {kind : Kind} → IsHeld mesh held → IsChosenCut mesh held kind cut →
    (o : OpenMesh) → IsOpenedInOrder mesh cut o → IsOpening mesh o.origins o.faces
chosen_is_opening {mesh} surface {held} {cut} {kind} is chosen o opened =
    kinds_are_openings mesh is.0 is.1 kind o.origins o.faces surface is.2 (chosen.chosen o opened is.0 is.1 is.2 is.3)

pub chosen_opening : {mesh : Mesh} → IsSurface mesh → {held cut : List Bool} {kind : Kind} → IsHeld mesh held → IsChosenCut mesh held kind cut → {E : Type 0} (r : Result OpenMesh E) → IfOk r (λ o. IsOpenedInOrder mesh cut o) → IfOk r (λ o. IsOpening mesh o.origins o.faces)
chosen_opening {mesh} surface {held} {cut} {kind} is chosen r =
    let P : OpenMesh → Type 0 = λ o. IsOpening mesh o.origins o.faces in
    IfOk-weaker r (λ o. IsOpenedInOrder mesh cut o) P (chosen_is_opening surface is chosen)

pub chosen_border : {mesh : Mesh} → IsSurface mesh → {held cut : List Bool} {kind : Kind} → IsHeld mesh held → IsChosenCut mesh held kind cut → All (λ v. v < mesh.vertices) (points_of kind) →
    (o : OpenMesh) → IsOpenedInOrder mesh cut o → HaveCopiesOnBorder kind o.origins o.faces
chosen_border {mesh} surface {held} {cut} {kind} is chosen inside o opened =
    points_on_border mesh is.0 is.1 kind o.origins o.faces surface is.2 inside (chosen.chosen o opened is.0 is.1 is.2 is.3)

pub full_counted : {mesh : Mesh} → IsSurface mesh → (held : List Bool) → IsHeld mesh held → (origins : List ℕ) (faces : List (List ℕ)) → IsChosenFor mesh held full (record { origins = origins; faces = faces }) →
    length origins + (face_count mesh + face_count mesh) ≡ edge_count mesh + edge_count mesh + 2
full_counted {mesh} surface held is origins faces chosen = full_openings_are_counted mesh is.0 is.1 origins faces surface is.2 (chosen is.0 is.1 is.2 is.3)

-- the flags of the full cut, and what trimming leaves of them
module _ {mesh : Mesh} (surface : IsSurface mesh) (held cut : List Bool) (flags : length held ≡ edge_count mesh) (over : AreTurnedOver held cut) (is : IsHeld mesh held) where
  pub full_is_chosen : IsChosenCut mesh held full cut
  full_is_chosen = record {
    disc = record { flags = over.0 ∙ flags; opens = full_opens cut (is_full surface held cut flags over is) };
    chosen = λ opened in_order. full_chosen surface held cut flags over in_order.0 in_order.1;
  }

  pub trimmed_is_chosen : (less : List Bool) → length less ≡ length cut → IsTrimmedFrom mesh cut less → HasEndedBy mesh less → IsChosenCut mesh held trimmed less
  trimmed_is_chosen less same steps ended = record {
    disc = record { flags = same ∙ over.0 ∙ flags; opens = trimmed_opens cut less (is_full surface held cut flags over is) steps };
    chosen = λ opened in_order. trimmed_chosen surface held cut flags over less steps ended in_order.0 in_order.1;
  }

-- a tree that a desk has grown is one that its flags mark
pub grown_is_held : {mesh : Mesh} (marks : List Bool) (weight : ℕ → ℕ) (tree : Tree) (t : CotreeTables) → IsMarked mesh tree marks → IsGrown mesh marks weight t → IsHeld mesh t.held
grown_is_held {mesh} marks weight tree t marked grown = (tree, cotree_of t, grown.split tree marked, grown.held)
