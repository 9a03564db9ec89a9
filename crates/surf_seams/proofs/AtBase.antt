-- Where the full cut starts, and the opening through given vertices at a base.
use Rattle.surf_surfaces.proofs.Common.{ℕ, sym, refl, ◌∙◌, Bool, List, Chain, Trees, AreChosenAt, Mesh, IsSurface, ArePositive}
use Rattle.surf_surfaces.proofs.bases.LoopsOne.{edges_same, cotrees_same}
use Rattle.surf_opening.specs.ChosenCut.{full_cut, SameEdges}
use Rattle.surf_opening.proofs.cuts.ChosenTrees.{chosen_trees_divide}
use Rattle.surf_opening.proofs.cuts.CutLists.{full_is}
use Rattle.surf_seams.specs.Through.{IsCutThrough, whole}
use Rattle.surf_seams.specs.Laws.{FullCutsStart, OpeningsThroughAtAreOne}
use Rattle.surf_seams.proofs.Openings.{openings_through_are_one}

pub full_cuts_start : FullCutsStart
full_cuts_start mesh tree cotree points cut split same =
    whole cut (λ e h. same e h ∙ sym (full_is mesh tree cotree split e h))

-- a cut through the points, of a set with the same edges
pub through_same : {mesh : Mesh} {full other : Chain} {points : ℕ → Bool} {cut : Chain} → SameEdges mesh full other →
    IsCutThrough mesh full points cut → IsCutThrough mesh other points cut
through_same same through = record {
  within = λ e h held. sym (same e h) ∙ through.within e h held;
  ends_in = through.ends_in;
  largest = λ some within ends_in. through.largest some (λ e h held. same e h ∙ within e h held) ends_in;
}

pub same_full : (mesh : Mesh) (lengths : List ℕ) (base : ℕ) (a b : Trees) → IsSurface mesh → ArePositive mesh lengths →
    AreChosenAt mesh lengths base a → AreChosenAt mesh lengths base b →
    SameEdges mesh (full_cut mesh b.tree b.cotree) (full_cut mesh a.tree a.cotree)
same_full mesh lengths base a b surface positive x y e h = sym
    (rw (
      edges_same mesh lengths base a b surface positive x y e,
      (cotrees_same mesh lengths base a b surface positive x y).edges e h,
    ) refl)

pub openings_through_at_are_one : OpeningsThroughAtAreOne
openings_through_at_are_one mesh lengths base a b points origins others faces other_faces surface positive x y one
    other =
    openings_through_are_one mesh a.tree a.cotree points origins others faces other_faces surface
    (chosen_trees_divide mesh lengths base a surface positive x) one
    (record {
      cut = other.cut;
      is_through = through_same (same_full mesh lengths base a b surface positive x y) other.is_through;
      some = other.some;
      opened = other.opened;
      in_order = other.in_order;
    })
