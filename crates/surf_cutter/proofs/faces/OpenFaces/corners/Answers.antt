use Rattle.surf_surfaces.proofs.Common.{sym, ap, ◌∙◌, flat_map}
use Rattle.surf_cutter.proofs.FaceTables.{all_rows}
use Rattle.surf_cutter.proofs.faces.OpenFaces.corners.Goals as goal

pub returns : goal.returns
returns c =
    c.deref.ensures.value ∙ sym (all_rows c.self.inside.starts.items c.self.inside.corners.items c.self.invariant)
    ∙ ap (flat_map (λ row. row)) c.self.view_is
