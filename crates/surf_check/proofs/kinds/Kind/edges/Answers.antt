use Rattle.surf_surfaces.proofs.Common.{◌≡◌, ◌∙◌, ◌/◌, sym, ap, subst, arith, Mesh, edge_count}
use Rattle.surf_surfaces.proofs.meshes.CountLaws.{sizes_twice}
use Rattle.surf_check.specs.Kinds.{kept_mesh, IsKeptKind}
use Rattle.surf_check.specs.declared.kinds.Kept.{Kept}
use Rattle.surf_check.proofs.kinds.Kind.edges.Goals as goal

pub returns-in-OneWay : goal.returns-in-OneWay
returns-in-OneWay c =
    let soup = c.in-OneWay.soup in
    let same = sym (ap kept_mesh c.in-OneWay.is) ∙ c.self.view_is in
    let P : Kept → Type 0 = IsKeptKind in
    let known = subst P c.in-OneWay.is c.self.invariant in
    let Q : Mesh → Type 0 = λ mesh. c.side_count.result / 2 ≡ edge_count mesh in
    record { count = subst Q same (omega (arith, c.side_count.ensures.count, sizes_twice soup known.0)) }
