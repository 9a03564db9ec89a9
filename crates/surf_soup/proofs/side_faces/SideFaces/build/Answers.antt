use Rattle.surf_surfaces.proofs.Common.{◌≡◌, ◌*◌, ap, ◌∙◌, arith, face_count, side_count}
use Rattle.surf_soup.specs.FaceTables.{thirds, kept_faces}
use Rattle.surf_soup.proofs.ThirdLaws.{thirds_are}
use Rattle.surf_soup.proofs.side_faces.SideFaces.build.Goals as goal
use Rattle.surf_soup.proofs.side_faces.SideFaces.build.Goals.{then-side_count-count, else-side_count-count+in_ok-list_faces}

pub returns : goal.returns
returns c = elim c.if-side_count-count.branch [
  | then-side_count-count w ↦
      let mesh = c.args.soup.now in
      let total : side_count mesh ≡ 3 * face_count mesh =
      omega (arith, w.if-side_count-count.true, c.side_count.ensures.count, c.faces-count.ensures.count) in
      ap kept_faces w.kept-is ∙ ap thirds c.faces-count.ensures.count
      ∙ thirds_are mesh c.law_of_soup.ensures.mesh total
  | else-side_count-count+in_ok-list_faces w ↦ ap kept_faces w.kept-is ∙ w.in_ok-list_faces.ensures
]
