use Rattle.surf_treecheck.proofs.Common.{◌≡◌, None, get_or, ap, sym, subst, ◌∙◌, arith, get_or_default, side_at, HasLink}
use Rattle.surf_treecheck.proofs.FaceLinks.{links_more}
use Rattle.surf_treecheck.proofs.links.link_faces.Goals as goal

pub loop-f-preserved : goal.loop-f-preserved
loop-f-preserved c =
    let mesh = c.args.mesh.now in
    let dual = c.args.dual.now in
    let f = c.loop-f.f in
    let face = c.link_over-face.result.0 in
    let edge = c.link_over-face.result.1 in
    let here : c.index-side-f.result ≡ side_at dual f =
    c.index-side-f.is ∙ ap (λ xs. get_or xs f c.index-side-f.result) c.side.ensures.side
    ∙ get_or_default dual.side f c.index-side-f.result None
    (omega (arith, c.requires.rows.sides, c.loop-f-test.true, c.faces-count.ensures.count)) in
    let is : HasLink mesh f (side_at dual f) face edge =
    subst (λ o. HasLink mesh f o face edge) here
    (subst (λ g. HasLink mesh g c.index-side-f.result face edge) c.new.ensures c.link_over-face.ensures.link) in
    let by_number : HasLink mesh f (side_at dual f) c.number.result edge =
    subst (λ g. HasLink mesh f (side_at dual f) g edge) (sym c.number.ensures) is in
    rw (c.in_ok-push.ensures.items, c.in_ok-push-2.ensures.items)
    (links_more mesh dual f c.loop-f.parent.items c.loop-f.up.items c.number.result c.number-in-loop-f.result
    c.loop-f.invariant
    (subst (HasLink mesh f (side_at dual f) c.number.result) (sym c.number-in-loop-f.ensures) by_number))
