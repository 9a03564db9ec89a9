use Rattle.surf_surfaces.proofs.Common.{◌≡◌, ◌+◌, ◌∙◌, sym, ap, subst, eqb-true}
use Rattle.surf_sheetfind.specs.Listed.{AreEdgeRows}
use Rattle.surf_sheetfind.specs.Sets.{set_at}
use Rattle.surf_sheetfind.proofs.EdgeRows.{edges_skip}
use Rattle.surf_sheetfind.proofs.edges.list_edges.Goals as goal
use Rattle.surf_sheetfind.proofs.edges.list_edges.Goals.{then-not-is_empty+in_ok-add_edge, else-not-is_empty}

pub loop-e-preserved : goal.loop-e-preserved
loop-e-preserved c =
    let mesh = c.args.sets.now.mesh.now in
    let count = c.args.count in
    let before = c.loop-e.listed in
    let inv = c.loop-e.invariant in
    elim c.if-not-is_empty.branch [
      | then-not-is_empty+in_ok-add_edge w ↦
          rw w.listed-is
          (subst (λ n. AreEdgeRows mesh (set_at c.args.sets.now) count (n + 1) w.add_edge.new.listed.edges.items
          w.add_edge.new.listed.numbers) c.new-edge.ensures
          (w.in_ok-add_edge.ensures.listed (set_at c.args.sets.now) (sym c.set_of-set.ensures.set)
          (subst (λ n. AreEdgeRows mesh (set_at c.args.sets.now) count n before.edges.items before.numbers)
          (sym c.new-edge.ensures) inv)))
      | else-not-is_empty w ↦
          let none : set_at c.args.sets.now c.loop-e.e ≡ 0 =
          ap (set_at c.args.sets.now) (sym c.new-edge.ensures) ∙ sym c.set_of-set.ensures.set ∙ sym c.bits.ensures
          ∙ eqb-true c.bits.result 0 (sym c.is_empty.ensures.empty ∙ w.if-not-is_empty.false) in
          rw w.listed-is
          (edges_skip mesh (set_at c.args.sets.now) count c.loop-e.e before.edges.items before.numbers none inv)
    ]
