use Rattle.surf_treecheck.proofs.Common.{◌<◌, ℕ, sym, subst, surfaces_are_cells}
use Rattle.surf_treecheck.proofs.edges.ends_inside.Goals as goal

pub returns-clause-inside : goal.returns-clause-inside
returns-clause-inside c =
    let mesh = c.args.mesh.now in
    let both = (surfaces_are_cells mesh c.law_of_surface.ensures.surface).complex.primal_ends c.args.e c.requires.edge in
    subst (λ (p : ℕ × ℕ). (p.0 < mesh.vertices) × (p.1 < mesh.vertices)) (sym c.ends.ensures) both
