use Rattle.surf_surfaces.proofs.Common.{◌≡◌, ℕ, get_or, subst, Err, err_from_is_err_and}
use Rattle.surf_text.specs.Pages.{grown}
use Rattle.surf_tree.specs.Tables.{parent_of}
use Rattle.surf_texts.specs.DistanceTexts.{vertex_line}
use Rattle.surf_texts.specs.Fills.{Fills}
use Rattle.surf_texts.proofs.Filling.{filled_more, stopped_below}
use Rattle.surf_texts.proofs.distances.put_distances.Goals as goal

pub returns-in_err-put_vertex : goal.returns-in_err-put_vertex
returns-in_err-put_vertex c =
    let p = err_from_is_err_and c.from_residual.result c.from_residual.ensures.1 in
    let fault = c.in_err-put_vertex.field-0.0 in
    rw (p.1, p.2) (stopped_below c.args.page.now c.loop-v.page c.put_vertex.new.page (λ v. vertex_line v (get_or c.args.tree.now.distances v 0) (parent_of c.args.tree.now v))
    c.args.vertices c.loop-v.v fault c.loop-v-test.true c.loop-v.invariant
    (subst (λ (v : ℕ). Fills {A = Unit {0}} c.loop-v.page c.put_vertex.new.page (vertex_line v (get_or c.args.tree.now.distances v 0) (parent_of c.args.tree.now v)) (Err fault))
    c.new.ensures c.in_err-put_vertex.ensures))

pub loop-v-preserved : goal.loop-v-preserved
loop-v-preserved c =
    filled_more c.args.page.now c.loop-v.page c.put_vertex.new.page (λ v. vertex_line v (get_or c.args.tree.now.distances v 0) (parent_of c.args.tree.now v)) c.loop-v.v
    c.loop-v.invariant
    (subst (λ (v : ℕ). c.put_vertex.new.page ≡ grown c.loop-v.page (vertex_line v (get_or c.args.tree.now.distances v 0) (parent_of c.args.tree.now v)))
    c.new.ensures c.in_ok-put_vertex.ensures)
