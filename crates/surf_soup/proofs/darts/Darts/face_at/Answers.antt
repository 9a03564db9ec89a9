use Rattle.surf_surfaces.proofs.Common.{ℕ, List, length, get_or, ap, ◌∙◌, arith, side_count, owners}
use Rattle.surf_soup.specs.Darts.{DartTables}
use Rattle.surf_soup.proofs.Owners.{length-owners}
use Rattle.surf_soup.proofs.darts.Darts.face_at.Goals as goal

pub at-requires : goal.at-requires
at-requires c =
    omega (
      arith,
      c.requires,
      ap (λ (t : DartTables). side_count t.mesh) c.self.view_is,
      ap length c.self.invariant.faces,
      length-owners 0 c.self.inside.soup.now.faces,
    )

pub returns : goal.returns
returns c =
    c.at.ensures ∙ ap (λ (xs : List ℕ). get_or xs c.args.side 0) c.self.invariant.faces
    ∙ ap (λ (t : DartTables). get_or (owners 0 t.mesh.faces) c.args.side 0) c.self.view_is
