-- The opening along the chosen cut.
use Rattle.surf_surfaces.proofs.Common.{◌↔◌, ◌≡◌, ℕ, ◌<◌, ◌∙◌, Bool, true, false, List, Chain, Tree, Joined, here, over, Mesh, IsSurface}
use Rattle.surf_opening.specs.Laws.{TellsCut, OpeningsInOrderExist}
use Rattle.surf_opening.specs.Named.{IsTrimmedByGreatest, whole}
use Rattle.surf_opening.specs.Opening.{corner_of, ShareUncutAt, IsOpenedBy}
use Rattle.surf_opening.proofs.sides.SideWords.{IsOpenedAlong}
use Rattle.surf_opening.specs.Side.{Side}
use Rattle.surf_opening.specs.Uncut.{AreEdges}
use Rattle.surf_opening.specs.ChosenCut.{AreDivided, ListsCotree, full_cut, SameEdges, IsChosenCut, IsChosenOpening}
use Rattle.surf_opening.specs.ChosenLaws.{FullCutsAreChosen, TrimmedCutsAreChosen, OpenedAreChosen, ChosenCutsAreOne, ChosenAreOpenings, ChosenAreOne, FullOpeningsAreCounted, ChosenExist}
use Rattle.surf_opening.proofs.cuts.Chosen.{list_told, same_where, trimmed_is_chosen, chosen_is_trimmed}
use Rattle.surf_opening.proofs.gluing.Cotrees.{dual_tree}
use Rattle.surf_opening.proofs.cuts.CutLists.{uncut_told, same_told}
use Rattle.surf_opening.proofs.cuts.FullCut.{full_copies}
use Rattle.surf_opening.proofs.openings.InOrder.{opening_in_order}
use Rattle.surf_opening.proofs.gluing.Joins.{joined_map}
use Rattle.surf_opening.proofs.LawProofs.{by_list}
use Rattle.surf_opening.proofs.cuts.NamedEdges.{forget}
use Rattle.surf_opening.proofs.openings.OpeningLaw.{opened_along, opening_law_by}
use Rattle.surf_opening.proofs.openings.Order.{openings_in_order_are_one}
use Rattle.surf_opening.proofs.gluing.TrimAll.{trim_all}
use Rattle.surf_opening.proofs.cuts.TwoLeaves.{trimmed_are}

-- two sets that one list tells have the same edges
told_same : (mesh : Mesh) (uncut : List (ℕ × ℕ)) (cut other : Chain) → TellsCut mesh uncut cut →
    TellsCut mesh uncut other →
    SameEdges mesh cut other
told_same mesh uncut cut other a b e h =
    same_where (cut e) (other e) (λ held. (b e h).1 ((a e h).0 held)) (λ held. (a e h).1 ((b e h).0 held))

-- an opening, with its uncut edges given in another way
pub opened_as : {mesh : Mesh} {P Q : ℕ → ℕ → Type 0} {origins : List ℕ} {faces : List (List ℕ)} →
    ((v w : ℕ) → P v w ↔ Q v w) → IsOpenedBy mesh P origins faces → IsOpenedBy mesh Q origins faces
opened_as {mesh} {P} {Q} same opened = record {
  same_faces = opened.same_faces;
  same_corners = opened.same_corners;
  inside = opened.inside;
  every_copy = opened.every_copy;
  one_copy = λ x y h g. let k = opened.one_copy x y h g in (
    (λ e. ((k.0 e).0, there (corner_of mesh.faces x) (k.0 e).1)),
    (λ m. k.1 (m.0, back (corner_of mesh.faces x) m.1)),
  );
}
  where
    there : (v : ℕ) {f g : ℕ} → Joined (ShareUncutAt mesh P v) f g → Joined (ShareUncutAt mesh Q v) f g
    there v c = joined_map (λ x. x) (λ x y r. over (r.0, r.1, r.2, (same v r.0).0 r.3) here) c

    back : (v : ℕ) {f g : ℕ} → Joined (ShareUncutAt mesh Q v) f g → Joined (ShareUncutAt mesh P v) f g
    back v c = joined_map (λ x. x) (λ x y r. over (r.0, r.1, r.2, (same v r.0).1 r.3) here) c

module _ {mesh : Mesh} (surface : IsSurface mesh) {tree cotree : Tree} (split : AreDivided mesh tree cotree) where
  pub some_list : (list : List (ℕ × ℕ)) × ListsCotree mesh cotree list
  some_list = let t = dual_tree surface split.cotree_is in (t.0, record { grows = t.1; its_edges = t.2 })

  -- the list of uncut edges that tells each chosen cut
  pub record Leaves (trim : Bool) : Type 0 where
    pub list : List (ℕ × ℕ)
    pub lists : ListsCotree mesh cotree list
    pub uncut : List (ℕ × ℕ)
    pub trimmed : IsTrimmedByGreatest (Side mesh) list uncut
    pub some_cut : Chain
    pub some_told : TellsCut mesh uncut some_cut
    pub some_chosen : IsChosenCut mesh tree cotree trim some_cut
    pub told : (cut : Chain) → IsChosenCut mesh tree cotree trim cut → TellsCut mesh uncut cut

  pub leaves : (trim : Bool) → Leaves trim
  leaves true =
      let l = some_list in
      let out = trim_all surface l.0 (full_cut mesh tree cotree) (list_told surface split l.1) in
      record {
        list = l.0;
        lists = l.1;
        uncut = out.uncut;
        trimmed = out.trimmed;
        some_cut = out.cut;
        some_told = out.told;
        some_chosen = trimmed_is_chosen surface split l.1 out.uncut out.cut out.trimmed out.told out.ended;
        told = λ cut is. same_told mesh out.uncut cut out.cut (chosen_is_trimmed surface split l.1 out cut is) out.told;
      }
  leaves false =
      let l = some_list in
      let told = list_told surface split l.1 in
      record {
        list = l.0;
        lists = l.1;
        uncut = l.0;
        trimmed = whole;
        some_cut = full_cut mesh tree cotree;
        some_told = told;
        some_chosen = λ e h. Rattle.std.proofs.Common.refl;
        told = λ cut is. same_told mesh l.0 cut (full_cut mesh tree cotree) is told;
      }

  leaves_are : (trim : Bool) → AreEdges (Side mesh) (leaves trim).uncut
  leaves_are trim = let l = leaves trim in trimmed_are surface l.lists.grows (forget l.trimmed)

  pub chosen_along : {trim : Bool} {origins : List ℕ} {faces : List (List ℕ)} →
      IsChosenOpening mesh tree cotree trim origins faces → IsOpenedAlong mesh (leaves trim).uncut origins faces
  chosen_along {trim} o = let l = leaves trim in
      opened_along l.uncut (uncut_told surface l.uncut o.cut (l.told o.cut o.is_chosen) (leaves_are trim)) o.opened

pub full_cuts_are_chosen : FullCutsAreChosen
full_cuts_are_chosen mesh tree cotree list cut surface split lists told =
    told_same mesh list cut (full_cut mesh tree cotree) told (list_told surface split lists)

pub trimmed_cuts_are_chosen : TrimmedCutsAreChosen
trimmed_cuts_are_chosen mesh tree cotree list uncut cut surface split lists trimmed told ended =
    trimmed_is_chosen surface split lists uncut cut trimmed told ended

pub opened_are_chosen : OpenedAreChosen
opened_are_chosen mesh tree cotree trim list uncut cut origins faces surface lists trimmed told is opened in_order =
    let are = trimmed_are surface lists.grows (forget trimmed) in
    record {
      cut = cut;
      is_chosen = is;
      opened = opened_as
          (λ v w. let k = uncut_told surface uncut cut told are v w in ((λ u. k.1 u), (λ u. k.0 u))) opened;
      in_order = in_order;
    }

pub chosen_cuts_are_one : ChosenCutsAreOne
chosen_cuts_are_one mesh tree cotree trim cut other surface split a b =
    let l = leaves surface split trim in
    told_same mesh l.uncut cut other (l.told cut a) (l.told other b)

pub chosen_are_openings : ChosenAreOpenings
chosen_are_openings mesh tree cotree trim origins faces surface split o =
    let l = leaves surface split trim in
    opening_law_by surface l.lists.grows (forget l.trimmed)
    (uncut_told surface l.uncut o.cut (l.told o.cut o.is_chosen) (trimmed_are surface l.lists.grows (forget l.trimmed)))
    o.opened

pub chosen_are_one : ChosenAreOne
chosen_are_one mesh tree cotree trim origins others faces other_faces surface split a b =
    openings_in_order_are_one mesh (leaves surface split trim).uncut origins others faces other_faces surface
    (by_list (chosen_along surface split a)) (by_list (chosen_along surface split b)) a.in_order b.in_order

pub full_openings_are_counted : FullOpeningsAreCounted
unfolding leaves
full_openings_are_counted mesh tree cotree origins faces surface split o =
    full_copies surface (leaves surface split false).lists.grows (chosen_along surface split o)

pub openings_in_order_exist : OpeningsInOrderExist
openings_in_order_exist mesh tree uncut surface dual trimmed =
    let o = opening_in_order surface dual trimmed in
    (o.0, o.1, by_list o.2, o.3)

pub chosen_exist : ChosenExist
chosen_exist mesh tree cotree trim surface split =
    let l = leaves surface split trim in
    let o = opening_in_order surface l.lists.grows (forget l.trimmed) in (
      o.0,
      o.1,
      opened_are_chosen mesh tree cotree trim l.list l.uncut l.some_cut o.0 o.1 surface l.lists l.trimmed
          l.some_told l.some_chosen (by_list o.2) o.3,
    )
