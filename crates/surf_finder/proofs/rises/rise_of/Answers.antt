use Rattle.surf_finder.proofs.Common.{ℕ, ◌<◌, sym, subst, ends_in}
use Rattle.surf_finder.proofs.rises.rise_of.Goals as goal

pub returns-clause-rise : goal.returns-clause-rise
returns-clause-rise c =
    let mesh = c.args.mesh.now in
    let inside = subst (λ (p : ℕ × ℕ). (p.0 < mesh.vertices) × (p.1 < mesh.vertices)) (sym c.ends-low.ensures)
    (ends_in mesh c.law_of_surface.ensures.surface c.args.edge c.requires.edge) in
    record { edge_in = c.requires.edge; low_in = inside.0; high_in = inside.1; ends_are = sym c.ends-low.ensures }
