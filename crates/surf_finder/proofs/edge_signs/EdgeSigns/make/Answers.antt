use Rattle.surf_finder.proofs.Common.{◌∙◌}
use Rattle.surf_finder.proofs.Kinded.{kinds_by, signs_by_kinds}
use Rattle.surf_finder.proofs.edge_signs.EdgeSigns.make.Goals as goal

pub invariant_of-result : goal.invariant_of-result
invariant_of-result c =
    kinds_by c.args.cotree.now c.in_ok-kinds.kinds c.in_ok-left.left.items
    (c.in_ok-left.ensures.items_if_clones_equal (λ x y same. same) ∙ c.left.ensures.left) c.in_ok-kinds.ensures.kinds

pub returns : goal.returns
returns c = record {
  made = signs_by_kinds c.args.cotree.now c.in_ok-kinds.kinds c.in_ok-left.left.items
      (c.in_ok-left.ensures.items_if_clones_equal (λ x y same. same) ∙ c.left.ensures.left) c.in_ok-kinds.ensures.kinds;
}
