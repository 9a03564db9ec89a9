use Rattle.surf_slit.proofs.Common.{◌<◌, subst, arith, side_count, IsDisc}
use Rattle.surf_cutter.proofs.Common.{nobody, HasPairedBorder}
use Rattle.surf_cutter.proofs.Rims.{same_total}
use Rattle.surf_cutter.proofs.disc_cut.Bordered.law_of_border.Goals as goal

pub returns : goal.returns
returns c =
    let is = c.self.invariant in
    let inside = c.self.inside in
    record {
      disc = subst IsDisc c.self.view_is is.is_disc;
      paired = subst HasPairedBorder c.self.view_is is.paired;
      few = subst (λ disc. side_count disc < nobody) c.self.view_is
          (omega (arith, same_total inside.mesh.now inside.disc.now.faces is.sizes, c.law_of_surface.ensures.few));
    }
