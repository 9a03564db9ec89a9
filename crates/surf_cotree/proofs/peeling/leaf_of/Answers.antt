use Rattle.surf_surfaces.proofs.Common.{◌≡◌, ◌<◌, ◌∙◌, ℕ, ap, arith, face_count, faces_of}
use Rattle.surf_cotree.proofs.Faces.{graph_is}
use Rattle.surf_cotree.proofs.peeling.leaf_of.Goals as goal

pub bounds-depth-index : goal.bounds-depth-index
bounds-depth-index c =
    let mesh = c.args.mesh.now in
    let ends = graph_is mesh c.law_of_surface.ensures.surface c.args.edge c.requires.edge in
    let near : (faces_of mesh c.args.edge).0 < face_count mesh = ends.0 in
    let is : c.index.result ≡ (faces_of mesh c.args.edge).0 = c.index.ensures ∙ ap (λ (p : ℕ × ℕ). p.0) c.faces_of-near.ensures in
    omega (arith, near, is, c.requires.depths)
