use Rattle.surf_treecheck.proofs.Common.{◌<◌, ℕ, sym, subst, face_count, surfaces_are_cells}
use Rattle.surf_treecheck.proofs.edges.faces_inside.Goals as goal

pub returns-clause-inside : goal.returns-clause-inside
returns-clause-inside c =
    let mesh = c.args.mesh.now in
    let both = (surfaces_are_cells mesh c.law_of_surface.ensures.surface).complex.dual_ends c.args.e c.requires.edge in
    subst (λ (p : ℕ × ℕ). (p.0 < face_count mesh) × (p.1 < face_count mesh)) (sym c.faces_of.ensures) both
