use Rattle.surf_surfaces.proofs.Common.{◌∙◌, ap, refl, sym, subst, length, side_count}
use Rattle.surf_cutter.specs.Opened.{MarkedMesh, IsOpenedInOrder}
use Rattle.surf_cutter.proofs.PairedBorders.{opens_to_disc, has_paired, are_border_sides}
use Rattle.surf_cutter.proofs.Rims.{same_sizes}
use Rattle.surf_cutter.proofs.disc_cut.DiscCut.border.Goals as goal

pub cut_sides-requires : goal.cut_sides-requires
cut_sides-requires c = ap length c.deref.ensures.value ∙ c.self.invariant.flags

pub invariant_of-result : goal.invariant_of-result
invariant_of-result c =
    let mesh = c.self.inside.mesh.now in
    let cut = c.self.inside.flags.items in
    let surface = c.law_of_surface.ensures.surface in
    let opens = c.self.invariant.opens in
    let P : MarkedMesh → Type 0 = λ s. IsOpenedInOrder s.mesh s.marks c.args.disc.now in
    let opened = (subst P (sym c.self.view_is) c.requires).0 in
    record {
      sizes = same_sizes opened;
      is_disc = opens_to_disc surface cut opens opened;
      paired = has_paired surface cut opens opened;
      all = are_border_sides surface cut opens opened (side_count mesh) c.in_ok-sides.sides.items refl
          (rw c.deref.ensures.value at c.in_ok-sides.ensures);
    }
