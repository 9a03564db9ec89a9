use Rattle.surf_surfaces.proofs.Common.{ℕ, ◌<◌, ◌∙◌, List, Bool, false, get_or, length, sym, ap, subst, arith, Mesh, HasOneFan, IsConnected}
use Rattle.surf_check.specs.Descent.{HaveLesserNeighbours}
use Rattle.surf_check.specs.Fault.{IsSurfaceFault}
use Rattle.surf_check.specs.declared.checking.SurfaceFault.TheVariants.{Apart}
use Rattle.surf_check.proofs.DescentLaws.{lesser_neighbours_join}
use Rattle.surf_check.proofs.one_way.test_faces_joined.Goals as goal

pub returns-then-are_set_behind_first-clause-joined : goal.returns-then-are_set_behind_first-clause-joined
returns-then-are_set_behind_first-clause-joined c =
    let mesh = c.tables.inside.soup.now in
    let marks = c.deref.result.now in
    let ends = c.tables.invariant.ends in
    let same = c.deref.ensures.value in
    let lesser : HaveLesserNeighbours mesh = λ v some lt.
    sym (ends.marked v lt) ∙ ap (λ (xs : List Bool). get_or xs v false) (sym same)
    ∙ c.if-are_set_behind_first.ensures v some (omega (arith, lt, ap length same, ends.size)) in
    subst IsConnected c.tables.view_is (lesser_neighbours_join mesh c.law_of_soup.ensures.mesh
    (subst (λ (m : Mesh). (v : ℕ) → v < m.vertices → HasOneFan m v) (sym c.tables.view_is) c.requires) lesser)

pub returns-in-None-clause-joined : goal.returns-in-None-clause-joined
returns-in-None-clause-joined c = subst IsConnected c.tables.view_is (rw c.in-None.is at c.in_ok-found.ensures)

pub returns-in-Some-clause-fault : goal.returns-in-Some-clause-fault
returns-in-Some-clause-fault c =
    let own = c.tables.invariant in
    let fans = subst (λ (m : Mesh). (v : ℕ) → v < m.vertices → HasOneFan m v) (sym c.tables.view_is) c.requires in
    subst (λ (m : Mesh). IsSurfaceFault m (Apart c.in-Some.face)) c.tables.view_is
    (own.some, own.two, own.met, fans, rw c.in-Some.is at c.in_ok-found.ensures)
