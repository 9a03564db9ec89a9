use Rattle.surf_surfaces.proofs.Common.{◌<◌, ◌≡◌, ◌∙◌, ℕ, ap, subst, sym, dual, cells_of}
use Rattle.surf_surfaces.proofs.meshes.CellLaws.{surfaces_are_cells}
use Rattle.surf_signatures.proofs.signing.faces_beside.Goals as goal

pub returns-clause-inside : goal.returns-clause-inside
returns-clause-inside c =
    let g = dual (cells_of c.args.mesh.now) in
    let ends = (surfaces_are_cells c.args.mesh.now c.law_of_surface.ensures.surface).complex.dual_ends c.args.edge c.requires.edge in
    let near : c.number.result ≡ g.from c.args.edge = c.number.ensures ∙ ap (λ (p : ℕ × ℕ). p.0) c.faces_of-near.ensures in
    let far : c.number-2.result ≡ g.to c.args.edge = c.number-2.ensures ∙ ap (λ (p : ℕ × ℕ). p.1) c.faces_of-near.ensures in
    (subst (λ n. n < g.nodes) (sym near) ends.0, subst (λ n. n < g.nodes) (sym far) ends.1)
