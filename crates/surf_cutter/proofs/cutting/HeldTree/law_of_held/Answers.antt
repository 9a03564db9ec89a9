use Rattle.surf_surfaces.proofs.Common.{subst, IsSurface}
use Rattle.surf_cutter.specs.Opened.{MarkedMesh, IsHeld}
use Rattle.surf_cutter.proofs.cutting.HeldTree.law_of_held.Goals as goal

pub returns : goal.returns
returns c = record {
  surface = subst (λ (h : MarkedMesh). IsSurface h.mesh) c.self.view_is c.law_of_surface.ensures.surface;
  held = subst (λ (h : MarkedMesh). IsHeld h.mesh h.marks) c.self.view_is c.self.invariant.held;
}
