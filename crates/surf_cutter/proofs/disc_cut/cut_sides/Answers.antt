use Rattle.surf_surfaces.proofs.Common.{◌≡◌, ◌+◌, ◌∷◌, ◌++◌, [], true, false, get_or, ap, sym, ◌∙◌, subst, rules, IsEdgeOf}
use Rattle.surf_cutter.specs.Boundary.{AreCutSides}
use Rattle.surf_cutter.proofs.BorderTables.{cut_more, cut_none}
use Rattle.surf_cutter.proofs.disc_cut.cut_sides.Goals as goal
use Rattle.surf_cutter.proofs.disc_cut.cut_sides.Goals.{then-cut-index+in_ok-push, else-cut-index}

pub loop-s-preserved : goal.loop-s-preserved
loop-s-preserved c =
    let mesh = c.args.mesh.now in
    let cut = c.args.cut.now in
    let s = c.loop-s.s in
    let list = c.loop-s.sides.items in
    let e = c.edge_of.result in
    let own : IsEdgeOf mesh s e = subst (λ t. IsEdgeOf mesh t e) c.new-side.ensures c.edge_of.ensures in
    elim c.if-cut-index.branch [
      | then-cut-index+in_ok-push w ↦
          let is : get_or cut e false ≡ true = ap (λ k. get_or cut k false) (sym c.index.ensures)
          ∙ w.if-cut-index.true in
          let items : c.if-cut-index.sides.items ≡ list ++ s ∷ [] = search rules in
          subst (AreCutSides mesh cut (s + 1)) (sym items) (cut_more mesh cut s e list c.loop-s.invariant own is)
      | else-cut-index w ↦
          let is : get_or cut e false ≡ false = ap (λ k. get_or cut k false) (sym c.index.ensures)
          ∙ w.if-cut-index.false in
          let items : c.if-cut-index.sides.items ≡ list = search rules in
          subst (AreCutSides mesh cut (s + 1)) (sym items) (cut_none mesh cut s e list c.loop-s.invariant own is)
    ]
