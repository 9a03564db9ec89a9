use Rattle.std.proofs.Common.{ℕ, ◌<◌, sym, subst, arith}
use Rattle.surf_surfaces.proofs.meshes.CellLaws.{ends_in}
use Rattle.surf_loops.proofs.heads.LoopLengthsWeights.weight_of.Goals as goal

pub distance-requires : goal.distance-requires
distance-requires c =
    let mesh = c.args.self.now.mesh.now in
    let both = ends_in mesh c.law_of_surface.ensures.surface c.args.edge c.requires.edge in
    let u : c.ends-u.result.0 < mesh.vertices = subst (λ (p : ℕ × ℕ). p.0 < mesh.vertices) (sym c.ends-u.ensures) both.0 in
    record { vertex = omega (arith, u, c.args.self.now.reached) }

pub distance-requires-2 : goal.distance-requires-2
distance-requires-2 c =
    let mesh = c.args.self.now.mesh.now in
    let both = ends_in mesh c.law_of_surface.ensures.surface c.args.edge c.requires.edge in
    let v : c.ends-u.result.1 < mesh.vertices = subst (λ (p : ℕ × ℕ). p.1 < mesh.vertices) (sym c.ends-u.ensures) both.1 in
    record { vertex = omega (arith, v, c.args.self.now.reached) }
