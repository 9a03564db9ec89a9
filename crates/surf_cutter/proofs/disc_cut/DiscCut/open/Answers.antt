use Rattle.std.proofs.Common.{◌∙◌, ap, sym, subst, arith, length}
use Rattle.surf_soup.proofs.SideTables.{three_each}
use Rattle.surf_cutter.specs.Opened.{MarkedMesh, OpenMesh, IsOpenedInOrder}
use Rattle.surf_cutter.proofs.PairedBorders.{opens_to_disc}
use Rattle.surf_cutter.proofs.disc_cut.DiscCut.open.Goals as goal

pub open_along-requires : goal.open_along-requires
open_along-requires c = ap length c.deref.ensures.value ∙ c.self.invariant.flags

pub from_parts-requires-clause-disc : goal.from_parts-requires-clause-disc
from_parts-requires-clause-disc c =
    opens_to_disc c.law_of_surface.ensures.surface c.self.inside.flags.items c.self.invariant.opens
    (rw c.deref.ensures.value at c.in_ok-origins.ensures.opened)

pub from_parts-requires-clause-few_faces : goal.from_parts-requires-clause-few_faces
from_parts-requires-clause-few_faces c =
    let mesh = c.self.inside.mesh.now in
    let s = c.law_of_surface.ensures in
    omega (arith, c.in_ok-origins.ensures.opened.same_faces, three_each mesh.vertices mesh.faces s.surface.is_mesh, s.few)

pub returns : goal.returns
returns c =
    let opened = c.from_parts.result in
    let P : OpenMesh → Type 0 = λ o. IsOpenedInOrder c.self.inside.mesh.now c.self.inside.flags.items o in
    let Q : MarkedMesh → Type 0 = λ cut. IsOpenedInOrder cut.mesh cut.marks opened in
    subst Q c.self.view_is (subst P (sym c.from_parts.ensures) (rw c.deref.ensures.value at c.in_ok-origins.ensures.opened, c.in_ok-origins.ensures.order))
