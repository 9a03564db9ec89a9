use Rattle.surf_cotree.proofs.Common.{◌≡◌, ◌≤◌, ◌*◌, length, ap, ◌∙◌, subst, arith, edge_count, some_vertex}
use Rattle.surf_cover.proofs.Common.{CoverTables, AreCoverTables, sets_of}
use Rattle.surf_cover.proofs.Grown.{sign_below}
use Rattle.surf_cover.proofs.desk.CoverDesk.sign.Goals as goal

pub copy_signs-requires-clause-small : goal.copy_signs-requires-clause-small
copy_signs-requires-clause-small c =
    let mesh = c.args.mesh.now in
    let t = c.self.inside in
    let made : AreCoverTables mesh c.args.self.now = c.requires.made in
    let vertices : t.vertices ≡ mesh.vertices = ap (λ (x : CoverTables). x.vertices) c.self.view_is ∙ made.vertices in
    let sets : t.sets ≡ sets_of mesh = ap (λ (x : CoverTables). x.sets) c.self.view_is ∙ made.sets in
    let count : length t.signs.items ≡ edge_count mesh = ap (λ (x : CoverTables). length x.signs) c.self.view_is ∙ made.signs in
    let few : mesh.vertices * t.sets ≤ 16777216 = subst (λ n. n * t.sets ≤ 16777216) vertices c.self.invariant.few in
    λ e l.
    let small = sign_below mesh c.args.cotree.now c.requires.signed t.sets sets 0
    (some_vertex mesh c.law_of_surface.ensures.surface) few e (omega (arith, l, count, c.deref_mut.ensures.len)) in
    omega (arith, small)
