use Rattle.surf_surfaces.proofs.Common.{ℕ, ◌<◌, subst, Mesh, HasOneFan}
use Rattle.surf_check.specs.Fault.{IsSurfaceFault}
use Rattle.surf_check.specs.declared.checking.SurfaceFault.TheVariants.{Pinched}
use Rattle.surf_check.proofs.one_way.test_fans.Goals as goal

pub returns-in-None-clause-fans : goal.returns-in-None-clause-fans
returns-in-None-clause-fans c =
    subst (λ (m : Mesh). (v : ℕ) → v < m.vertices → HasOneFan m v) c.tables.view_is
    (rw c.in-None.is at c.in_ok-found.ensures)

pub returns-in-Some-clause-fault : goal.returns-in-Some-clause-fault
returns-in-Some-clause-fault c =
    let own = c.tables.invariant in
    subst (λ (m : Mesh). IsSurfaceFault m (Pinched c.in-Some.pinch.v c.in-Some.pinch.first c.in-Some.pinch.second)) c.tables.view_is
    (own.some, own.two, own.met, rw c.in-Some.is at c.in_ok-found.ensures)
