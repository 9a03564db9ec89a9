-- The opening along the cut through given vertices.
use Rattle.surf_surfaces.proofs.Common.{◌≡◌, ◌≢◌, ℕ, ◌+◌, ◌<◌, ◌≤◌, ◌⊎◌, inl, inr, sym, refl, subst, ap, ◌∙◌, Bool, true, List, [], ◌∷◌, length, get_or, arith, Chain, count_below-same, Tree, Mesh, pair, edge_count, face_at, faces_with, ends, touches, HasEdge, IsSurface, degree_in, IsBorderEdge, after, side_pair, corner}
use Rattle.surf_surfaces.proofs.meshes.FaceLaws.{pair_comm}
use Rattle.surf_opening.specs.ChosenCut.{AreDivided, ListsCotree, full_cut, SameEdges}
use Rattle.surf_opening.specs.Laws.{TellsCut, cut_count, without}
use Rattle.surf_opening.specs.Opening.{corner_of}
use Rattle.surf_opening.specs.Rim.{along}
use Rattle.surf_opening.specs.Side.{Side, IsPlace}
use Rattle.surf_opening.specs.Uncut as uncut_spec
use Rattle.surf_opening.specs.Uncut.{Uncut, IsDualTree, IsTrimmed}
use Rattle.surf_opening.proofs.sides.SideWords.{IsOpenedAlong}
use Rattle.surf_opening.proofs.openings.BorderLaws.{borders_are_cut}
use Rattle.surf_opening.proofs.cuts.Chosen.{list_told, trimmed_is_chosen}
use Rattle.surf_opening.proofs.openings.ChosenOpenings.{some_list, opened_as}
use Rattle.surf_opening.proofs.gluing.Cotrees.{ends_pair, uncut_among}
use Rattle.surf_opening.proofs.counts.CutCounts.{trimming_goes_on}
use Rattle.surf_opening.proofs.cuts.CutLists.{uncut_told, same_told, edge_told}
use Rattle.surf_opening.proofs.sides.Edges.{edge_of, face_of}
use Rattle.surf_opening.proofs.openings.InOrder.{opening_in_order}
use Rattle.surf_opening.proofs.LawProofs.{by_list}
use Rattle.surf_opening.proofs.cuts.NamedEdges.{forget}
use Rattle.surf_opening.proofs.cuts.NamedLaw.{end_below}
use Rattle.surf_opening.proofs.openings.Opened.{opened_mesh, same_length, origin_at, copy_below, next_place}
use Rattle.surf_opening.proofs.openings.OpeningLaw.{surface_sides, opened_along, opening_law_by}
use Rattle.surf_opening.proofs.openings.Order.{openings_in_order_are_one}
use Rattle.surf_opening.proofs.sides.Polygons.{pair_is, has_side_from, has_side_to, among_pair}
use Rattle.surf_opening.proofs.gluing.Trim.{trimmed_has_cut}
use Rattle.surf_opening.proofs.gluing.TrimAll.{trim_all}
use Rattle.surf_opening.proofs.cuts.TwoLeaves.{trimmed_are}
use Rattle.surf_seams.specs.Through.{IsCutThrough, IsTakenBackTo, whole, taken, HasCopyOnBorder}
use Rattle.surf_seams.specs.Laws.{TakenBackAreTrimmed, OpenedThroughAreOpenings, CutsThroughAreLong, PointsAreOnBorder, OpeningsThroughAreOpenings, OpeningsThroughExist, OpeningsThroughAreOne, OpenedAreThrough}
use Rattle.surf_seams.proofs.Taking.{within_count, degree_count, degree_some, taking_back_ends, taken_back_are_through, take_all, through_is_taken}
use Rattle.surf_seams.proofs.Pieces.{ends_at, at_first, points_are_on_cut}

-- a list of uncut edges that trims and tells a set
pub record IsListed (mesh : Mesh) (list : List (ℕ × ℕ)) (cut : Chain) : Type 0 where
  pub uncut : List (ℕ × ℕ)
  pub trimmed : IsTrimmed (Side mesh) list uncut
  pub told : TellsCut mesh uncut cut

-- an edge as the pair of a vertex and another
pair_at : {mesh : Mesh} (surface : IsSurface mesh) (v e : ℕ) → e < edge_count mesh → touches v (ends mesh e) ≡ true →
    (q : ℕ) × (ends mesh e ≡ pair v q)
pair_at {mesh} surface v e h end = elim (ends_at mesh v e end) [
  | inl a ↦ ((ends mesh e).1, sym (ends_pair surface e h) ∙ ap (λ x. pair x (ends mesh e).1) a)
  | inr b ↦ (
    (ends mesh e).0,
    sym (ends_pair surface e h) ∙ ap (λ y. pair (ends mesh e).0 y) b
        ∙ pair_comm (ends mesh e).0 v,
  )
]

module _ {mesh : Mesh} (surface : IsSurface mesh) {tree cotree : Tree} (split : AreDivided mesh tree cotree) where
  pub listed : {list : List (ℕ × ℕ)} → ListsCotree mesh cotree list → {points : ℕ → Bool} {cut : Chain} →
      IsTakenBackTo mesh points (full_cut mesh tree cotree) cut → 2 ≤ cut_count mesh cut → IsListed mesh list cut
  listed {list} lists (whole cut same) many = record {
    uncut = list;
    trimmed = uncut_spec.whole;
    told = same_told mesh list cut (full_cut mesh tree cotree) same (list_told surface split lists);
  }
  listed {list} lists {points} (taken {cut} next e p before loose same) many =
      let less : cut_count mesh cut ≡ cut_count mesh next + 1 = taking_back_ends mesh points cut next e p loose same in
      let l = listed lists before (omega arith) in
      let q = pair_at surface p e loose.is_edge loose.its_end in
      let step = trimming_goes_on mesh list l.uncut cut e p q.0 surface l.trimmed l.told loose.is_edge loose.is_cut q.1
      loose.only (omega arith) in
      record {
        uncut = (p, q.0) ∷ l.uncut;
        trimmed = step.0;
        told = same_told mesh ((p, q.0) ∷ l.uncut) next (without cut e) same step.1;
      }

  -- the same for the cut through the points
  pub through_listed : {list : List (ℕ × ℕ)} → ListsCotree mesh cotree list → (points : ℕ → Bool) (cut : Chain) →
      IsCutThrough mesh (full_cut mesh tree cotree) points cut → 2 ≤ cut_count mesh cut → IsListed mesh list cut
  through_listed {list} lists points cut through many =
      let out = take_all mesh points (full_cut mesh tree cotree) in
      let same = through_is_taken mesh points (full_cut mesh tree cotree) cut through in
      let count : cut_count mesh cut ≡ cut_count mesh out.cut = count_below-same (edge_count mesh) cut out.cut same in
      let l = listed lists out.is_taken (omega arith) in
      record { uncut = l.uncut; trimmed = l.trimmed; told = same_told mesh l.uncut cut out.cut same l.told }

pub taken_back_are_trimmed : TakenBackAreTrimmed
taken_back_are_trimmed mesh tree cotree list points cut surface split lists before many =
    let l = listed surface split lists before many in
    (l.uncut, l.trimmed, l.told)

pub opened_through_are_openings : OpenedThroughAreOpenings
opened_through_are_openings mesh tree cotree points cut origins faces surface split through many opened =
    let lists = some_list surface split in
    let l = through_listed surface split lists.1 points cut through many in
    opening_law_by surface lists.1.grows l.trimmed
    (uncut_told surface l.uncut cut l.told (trimmed_are surface lists.1.grows l.trimmed)) opened

pub cuts_through_are_long : CutsThroughAreLong
cuts_through_are_long mesh tree cotree points cut surface split low through =
    let lists = some_list surface split in
    let out = trim_all surface lists.0 (full_cut mesh tree cotree) (list_told surface split lists.1) in
    let endless = (trimmed_is_chosen surface split lists.1 out.uncut out.cut out.trimmed out.told out.ended).below_two
    low in
    let side = trimmed_has_cut (surface_sides surface) lists.1.grows (forget out.trimmed) in
    let e = edge_told surface out.uncut out.cut out.told side.1 side.2 (side.0, side.3) in
    let v = (ends mesh e.0).0 in
    let v_in : v < mesh.vertices = first_below surface e.0 e.1 in
    let some : 1 ≤ degree_in mesh out.cut v = degree_some mesh out.cut v e.0 e.1 e.3 (at_first mesh v e.0 (refl {a = v})) in
    let not_one : degree_in mesh out.cut v ≢ 1 = endless.no_end v v_in in
    let most : degree_in mesh out.cut v ≤ cut_count mesh out.cut = degree_count mesh out.cut v in
    let wide : cut_count mesh out.cut ≤ cut_count mesh cut = within_count mesh out.cut cut
    (through.largest out.cut endless.within (λ v h out'. endless.no_end v h)) in
    omega arith
  where
    first_below : {mesh : Mesh} (surface : IsSurface mesh) (e : ℕ) → e < edge_count mesh →
        (ends mesh e).0 < mesh.vertices
    first_below {mesh} surface e h =
        let f = face_of mesh e h in
        end_below surface f.0 (ends mesh e).0 (ends mesh e).1
        (record { has = subst (λ p. HasEdge mesh f.0 p) (sym (ends_pair surface e h)) f.1 })

pub openings_through_are_openings : OpeningsThroughAreOpenings
openings_through_are_openings mesh tree cotree points origins faces surface split o =
    opened_through_are_openings mesh tree cotree points o.cut origins faces surface split o.is_through o.some o.opened

pub openings_through_exist : OpeningsThroughExist
openings_through_exist mesh tree cotree points cut surface split through many =
    let lists = some_list surface split in
    let l = through_listed surface split lists.1 points cut through many in
    let o = opening_in_order surface lists.1.grows l.trimmed in
    let are = trimmed_are surface lists.1.grows l.trimmed in (
      o.0,
      o.1,
      record {
        cut = cut;
        is_through = through;
        some = many;
        opened = opened_as
            (λ v w. let k = uncut_told surface l.uncut cut l.told are v w in ((λ u. k.1 u), (λ u. k.0 u)))
            (by_list o.2);
        in_order = o.3;
      },
    )

pub openings_through_are_one : OpeningsThroughAreOne
openings_through_are_one mesh tree cotree points origins others faces other_faces surface split a b =
    let lists = some_list surface split in
    let l = through_listed surface split lists.1 points a.cut a.is_through a.some in
    let are = trimmed_are surface lists.1.grows l.trimmed in
    let same : SameEdges mesh b.cut a.cut = Rattle.surf_seams.proofs.Taking.cuts_through_are_one mesh
    (full_cut mesh tree cotree) points b.cut a.cut b.is_through a.is_through in
    let told = same_told mesh l.uncut b.cut a.cut same l.told in
    openings_in_order_are_one mesh l.uncut origins others faces other_faces surface
    (by_list (opened_along l.uncut (uncut_told surface l.uncut a.cut l.told are) a.opened))
    (by_list (opened_along l.uncut (uncut_told surface l.uncut b.cut told are) b.opened)) a.in_order b.in_order

pub opened_are_through : OpenedAreThrough
opened_are_through mesh tree cotree points list uncut cut origins faces surface lists trimmed told before ends_in many
    opened in_order =
    let are = trimmed_are surface lists.grows trimmed in
    record {
      cut = cut;
      is_through = taken_back_are_through mesh (full_cut mesh tree cotree) points cut before ends_in;
      some = many;
      opened = opened_as
          (λ v w. let k = uncut_told surface uncut cut told are v w in ((λ u. k.1 u), (λ u. k.0 u))) opened;
      in_order = in_order;
    }

-- the members of an unordered pair
first_of : (a b : ℕ) (p : ℕ × ℕ) → p ≡ pair a b → (a ≡ p.0) ⊎ (a ≡ p.1)
first_of a b p e = elim (pair_is a b) [
  | inl h ↦ inl (sym (ap (λ (p : ℕ × ℕ). p.0) (e ∙ h)))
  | inr h ↦ inr (sym (ap (λ (p : ℕ × ℕ). p.1) (e ∙ h)))
]

second_of : (a b : ℕ) (p : ℕ × ℕ) → p ≡ pair a b → (b ≡ p.0) ⊎ (b ≡ p.1)
second_of a b p e = elim (pair_is a b) [
  | inl h ↦ inr (sym (ap (λ (p : ℕ × ℕ). p.1) (e ∙ h)))
  | inr h ↦ inl (sym (ap (λ (p : ℕ × ℕ). p.0) (e ∙ h)))
]

one_of_pair : (a b v : ℕ) (p : ℕ × ℕ) → p ≡ pair a b → (p.0 ≡ v) ⊎ (p.1 ≡ v) → (a ≡ v) ⊎ (b ≡ v)
one_of_pair a b v p e which = elim (pair_is a b) [
  | inl h ↦ elim which [
    | inl k ↦ inl (sym (ap (λ (p : ℕ × ℕ). p.0) (e ∙ h)) ∙ k)
    | inr k ↦ inr (sym (ap (λ (p : ℕ × ℕ). p.1) (e ∙ h)) ∙ k)
  ]
  | inr h ↦ elim which [
    | inl k ↦ inr (sym (ap (λ (p : ℕ × ℕ). p.0) (e ∙ h)) ∙ k)
    | inr k ↦ inl (sym (ap (λ (p : ℕ × ℕ). p.1) (e ∙ h)) ∙ k)
  ]
]

module _ {mesh : Mesh} (surface : IsSurface mesh) {list uncut : List (ℕ × ℕ)} {origins : List ℕ}
    {faces : List (List ℕ)} (dual : IsDualTree (Side mesh) list) (trimmed : IsTrimmed (Side mesh) list uncut)
    (opened : IsOpenedAlong mesh uncut origins faces) where
  -- the side at a place is an edge of the border where it is cut
  border_there : (f i : ℕ) → IsPlace mesh (f, i) →
      (Uncut uncut (corner (face_at mesh f) i) (corner (face_at mesh f) (after (length (face_at mesh f)) i)) → ⊥) →
      (k : ℕ) × IsBorderEdge (opened_mesh origins faces) k
      × (ends (opened_mesh origins faces) k ≡ side_pair (get_or faces f []) i)
  border_there f i x cut =
      let sides = surface_sides surface in
      let one = (borders_are_cut mesh list uncut origins faces f i surface dual trimmed (by_list opened) x).1 cut in
      let row = get_or faces f [] in
      let n : length row ≡ length (face_at mesh f) = same_length sides opened x.0 in
      let has : HasEdge (opened_mesh origins faces) f (side_pair row i) = (
        subst (λ m. f < m) (sym opened.same_faces) x.0,
        has_side_from row i (corner row i) (corner row (after (length row) i)) (subst (λ m. i < m) (sym n) x.1)
            (along refl refl),
      ) in
      let k = edge_of (opened_mesh origins faces) f (side_pair row i) has in
      (k.0, (k.1, subst (λ p. length (faces_with (opened_mesh origins faces) p) ≡ 1) (sym k.2) one), k.2)

  -- so each end of a cut edge has a copy on the border
  copy_there : (cut : Chain) → TellsCut mesh uncut cut → (v e : ℕ) → e < edge_count mesh → cut e ≡ true →
      touches v (ends mesh e) ≡ true → HasCopyOnBorder origins faces v
  copy_there cut told v e e_in held end =
      let sides = surface_sides surface in
      let f = face_of mesh e e_in in
      let i = has_side_to (face_at mesh f.0) (ends mesh e) f.1.1 in
      let x : IsPlace mesh (f.0, i.0) = (f.1.0, i.1) in
      let j = after (length (face_at mesh f.0)) i.0 in
      let y : IsPlace mesh (f.0, j) = next_place sides opened f.0 i.0 x in
      let c = corner (face_at mesh f.0) i.0 in
      let d = corner (face_at mesh f.0) j in
      let row = get_or faces f.0 [] in
      let n : length row ≡ length (face_at mesh f.0) = same_length sides opened x.0 in
      let k = border_there f.0 i.0 x (λ u. (told e e_in).0 held
      (uncut_among surface uncut c d (ends mesh e).0 (ends mesh e).1 u
      (among_pair (sym i.2 ∙ sym (ends_pair surface e e_in))))) in
      elim (one_of_pair c d v (ends mesh e) i.2 (ends_at mesh v e end)) [
        | inl at_c ↦ (
          corner_of faces (f.0, i.0),
          copy_below sides opened f.0 i.0 x,
          origin_at sides opened f.0 i.0 x ∙ at_c,
          (k.0, k.1, first_of (corner row i.0) (corner row (after (length row) i.0)) (ends (opened_mesh origins faces) k.0) k.2),
        )
        | inr at_d ↦ (
          corner_of faces (f.0, j),
          copy_below sides opened f.0 j y,
          origin_at sides opened f.0 j y ∙ at_d,
          (
            k.0,
            k.1,
            subst (λ m. (corner row (after m i.0) ≡ (ends (opened_mesh origins faces) k.0).0)
                ⊎ (corner row (after m i.0) ≡ (ends (opened_mesh origins faces) k.0).1)) n
                (second_of (corner row i.0) (corner row (after (length row) i.0)) (ends (opened_mesh origins faces) k.0)
                k.2),
          ),
        )
      ]

pub points_are_on_border : PointsAreOnBorder
points_are_on_border mesh tree cotree points origins faces v surface split o h is =
    let lists = some_list surface split in
    let l = through_listed surface split lists.1 points o.cut o.is_through o.some in
    let are = trimmed_are surface lists.1.grows l.trimmed in
    let opened = opened_along l.uncut (uncut_told surface l.uncut o.cut l.told are) o.opened in
    let two : 2 ≤ cut_count mesh o.cut = o.some in
    let e = points_are_on_cut mesh tree cotree points o.cut v surface split o.is_through (omega arith) h is in
    copy_there surface lists.1.grows l.trimmed opened o.cut l.told v e.0 e.1 e.2 e.3
