-- The border of an opening, side by side.
use Rattle.surf_surfaces.proofs.Common.{◌≡◌, ℕ, ◌↔◌, inl, inr, sym, refl, subst, [], length, get_or, pair, after, face_at, faces_with}
use Rattle.surf_opening.specs.Laws.{CutSidesHaveNext, BordersAreCut}
use Rattle.surf_opening.specs.Opening.{corner_of}
use Rattle.surf_opening.specs.Uncut.{Uncut}
use Rattle.surf_opening.proofs.openings.DiscLaw.{border_at}
use Rattle.surf_opening.proofs.LawProofs.{along_list}
use Rattle.surf_opening.proofs.sides.MeshSides.{is_darts}
use Rattle.surf_opening.proofs.openings.Opened.{opened_mesh, same_length, next_place}
use Rattle.surf_opening.proofs.openings.OpeningLaw.{surface_sides}
use Rattle.surf_opening.proofs.openings.Slits.{always_paired}
use Rattle.surf_opening.proofs.gluing.Trim.{trimmed_is_open}

pub cut_sides_have_next : CutSidesHaveNext
cut_sides_have_next mesh uncut f v w surface are r =
    let paired = always_paired (surface_sides surface) uncut are in
    let o = paired.another r in (
      o.0,
      o.1,
      record { cut = o.2; at_copy = o.3; other = o.4 },
      λ g y n. elim (paired.no_third r o.2 n.cut o.3 n.at_copy) [
        | inl a ↦ absurd (o.4 a.0 a.1)
        | inr b ↦ elim b [ inl a ↦ absurd (n.other a.0 a.1) | inr a ↦ (sym a.0, sym a.1) ]
      ],
    )

pub borders_are_cut : BordersAreCut
borders_are_cut mesh tree uncut origins faces f i surface dual trimmed opened h =
    let sides = surface_sides surface in
    let o = along_list uncut opened in
    let j = after (length (face_at mesh f)) i in
    let x : ℕ × ℕ = (f, i) in
    let n : length (get_or faces f []) ≡ length (face_at mesh f) = same_length sides o h.0 in
    let law = border_at sides o (trimmed_is_open sides dual trimmed) ((is_darts mesh surface.is_mesh).side x h)
    (record { place = i; is_place = h; of = refl; is = refl })
    (record { place = j; is_place = next_place sides o f i h; of = refl; is = refl }) in
    subst (λ m. (length (faces_with (opened_mesh origins faces)
    (pair (corner_of faces (f, i)) (corner_of faces (f, after m i)))) ≡ 1)
    ↔ (Uncut uncut (get_or (face_at mesh f) i 0) (get_or (face_at mesh f) j 0) → ⊥))
    (sym n) law
