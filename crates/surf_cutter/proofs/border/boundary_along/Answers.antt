use Rattle.surf_surfaces.proofs.Common.{subst, IfOk, Mesh}
use Rattle.surf_cutter.specs.Boundary.{IsBoundary}
use Rattle.surf_cutter.proofs.border.boundary_along.Goals as goal

pub returns : goal.returns
returns c = subst (λ (disc : Mesh). IfOk c.round_of.result (λ v. IsBoundary disc v.items)) c.in_ok-border.ensures c.round_of.ensures
