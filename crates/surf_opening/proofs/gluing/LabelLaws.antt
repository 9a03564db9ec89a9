-- The laws of labels, at a mesh.
use Rattle.surf_surfaces.proofs.Common.{◌≡◌, ℕ, inl, inr, sym, subst, ap, ◌∙◌, [], here}
use Rattle.surf_opening.specs.Laws.{LabelsStart, LabelsGrow, LabelsZip, LabelsAreCopies}
use Rattle.surf_opening.specs.Side.{Side}
use Rattle.surf_opening.specs.Uncut.{Uncut, Copy}
use Rattle.surf_opening.proofs.gluing.Gluing.{glues}
use Rattle.surf_opening.proofs.gluing.Labels.{labels_grown, labels_zipped}
use Rattle.surf_opening.proofs.sides.MeshSides.{is_darts}
use Rattle.surf_opening.proofs.openings.OpeningLaw.{surface_sides}
use Rattle.surf_opening.proofs.gluing.Trim.{trimmed_is_open, leaf_closed}

pub labels_start : LabelsStart
labels_start mesh f label differ g h v w x y i j s t = elim i [
  | inr k ↦ elim k [ ]
  | inl a ↦ elim j [
    | inr k ↦ elim k [ ]
    | inl b ↦ (
      (λ e. (
        differ v w x y (subst (λ f. Side mesh f v w) a s) (subst (λ f. Side mesh f x y) b t)
            (ap (λ f. label f v) (sym a) ∙ e ∙ ap (λ f. label f x) b),
        subst (λ h. Copy (Side mesh) [] v g h) (a ∙ sym b) here,
      )),
      (λ m. ap (λ f. label f v) (a ∙ sym b) ∙ ap (λ v. label h v) m.0),
    )
  ]
]

pub labels_grow : LabelsGrow
labels_grow mesh faces uncut a b p q label more surface tree in_a out_b at_a at_b agree are =
    labels_grown (surface_sides surface) tree in_a out_b at_a at_b label more agree are.as_before are.at_first
    are.at_second are.new are.apart

pub labels_zip : LabelsZip
labels_zip mesh tree uncut faces a b p q label fewer surface dual trimmed leaf at_a at_b differ in_a in_b agree are =
    let sides = surface_sides surface in
    let glue = glues sides uncut at_a.0 at_b.0 differ at_a.1 in
    let only : (f w : ℕ) → (Side mesh f p w × (Uncut uncut p w → ⊥)) → w ≡ q =
    λ f w r. leaf.only f w r ∙ sym (leaf.only a q at_a) in
    let other = leaf_closed sides (trimmed_is_open sides dual trimmed) at_a only in
    let same : b ≡ other.0 = elim (sides.two_faces at_a.0 at_b.0 other.1) [
      | inl e ↦ absurd (differ e)
      | inr o ↦ elim o [ inl e ↦ absurd (other.2 e) | inr e ↦ e ]
    ] in
    labels_zipped sides faces uncut in_a in_b glue (subst (λ b. Copy (Side mesh) uncut p a b) (sym same) other.3) label
    fewer agree are.renamed are.others

pub labels_are_copies : LabelsAreCopies
labels_are_copies mesh uncut all label origins faces surface every agree over is =
    let darts = is_darts mesh surface.is_mesh in
    record {
      same_faces = over.same_faces;
      same_corners = over.same_corners;
      inside = over.inside;
      every_copy = over.every_copy;
      one_copy = λ x y h g.
          let k = agree x.0 y.0 _ _ _ _ (every x.0 h.0) (every y.0 g.0) (darts.side x h) (darts.side y g) in
          ((λ e. k.0 (sym (is x h) ∙ e ∙ is y g)), (λ m. is x h ∙ k.1 m ∙ sym (is y g)));
    }
