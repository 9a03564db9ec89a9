use Rattle.surf_treecheck.proofs.Common.{◌≡◌, get_or, ap, sym, subst, ◌∙◌, arith, get_or_default, side_at, HasLink}
use Rattle.surf_treecheck.proofs.FaceLinks.{step_is}
use Rattle.surf_treecheck.proofs.links.step_up.Goals as goal

pub returns : goal.returns
returns c =
    let mesh = c.args.mesh.now in
    let links = c.args.links.now in
    let at = c.args.at in
    let is = c.requires.links.each at c.requires.face in
    let face : c.new.result ≡ get_or links.parent.items at 0 =
    c.new.ensures ∙ c.index-2.ensures ∙ ap (λ i. get_or links.parent.items i c.index-2.result.now) c.index.ensures
    ∙ get_or_default links.parent.items at c.index-2.result.now 0
    (omega (arith, c.requires.links.parents, c.requires.face)) in
    let edge : c.new-2.result ≡ get_or links.up.items at 0 =
    c.new-2.ensures ∙ c.index-4.ensures ∙ ap (λ i. get_or links.up.items i c.index-4.result.now) c.index-3.ensures
    ∙ get_or_default links.up.items at c.index-4.result.now 0 (omega (arith, c.requires.links.ups, c.requires.face)) in
    record {
      step = step_is mesh c.args.dual.now at c.new.result c.new-2.result
          c.law_of_surface.ensures.surface c.requires.tree c.requires.face c.requires.below
          (subst (λ f. HasLink mesh at (side_at c.args.dual.now at) f c.new-2.result) (sym face)
          (subst (HasLink mesh at (side_at c.args.dual.now at) (get_or links.parent.items at 0)) (sym edge) is));
    }
