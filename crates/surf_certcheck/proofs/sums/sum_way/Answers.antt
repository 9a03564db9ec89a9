use Rattle.surf_treecheck.proofs.Common.{unwrap_or, ◌≡◌, ◌<◌, ◌*◌, ◌^◌, ◌∙◌, None, Some, bit_xor, slice_index, sym, ap, subst, arith, get_or-set_same, edge_number, xor_lt, pow_pos, certified_tree, parent_at, IsParent}
use Rattle.surf_certcheck.proofs.Common.{Signed, words_for, way_class}
use Rattle.surf_certcheck.proofs.Climbing.{step_up, at_base, way_summed, way_empty}
use Rattle.surf_certcheck.proofs.sums.sum_way.Goals as goal
use Rattle.surf_certcheck.proofs.sums.sum_way.Goals.{in-Some, in_default}

pub put-requires-clause-fits : goal.put-requires-clause-fits
put-requires-clause-fits c =
    let w = 64 * words_for c.args.sums.now.width in
    let none : 0 < 2 ^ w = pow_pos w in
    subst (λ n. n < 2 ^ w) (sym c.bits.ensures) (elim c.match-parent_of.branch [
      | in-Some x ↦
          let above = x.of.result in
          let added = x.signature.result in
          let sum : c.match-parent_of.sum ≡ bit_xor (bit_xor 0 above) added =
          x.sum-is ∙ x.add-in-Some.ensures ∙ ap (λ n. bit_xor n added) (x.add.ensures ∙ ap (λ z. bit_xor z above) c.zero-sum.ensures) in
          let fits : added < 2 ^ w = subst (λ k. added < 2 ^ (64 * words_for k)) (sym c.requires.width) x.signature.ensures.within in
          subst (λ n. n < 2 ^ w) (sym sum) (xor_lt w (bit_xor 0 above) added (xor_lt w 0 above none x.of.ensures.within) fits)
      | in_default x ↦ subst (λ n. n < 2 ^ w) (sym (x.sum-is ∙ c.zero-sum.ensures)) none
    ])

pub edge_between-requires : goal.edge_between-requires
edge_between-requires c =
    let rows = c.args.rows.now in
    let v = c.args.v in
    let is : parent_at rows v ≡ Some c.in-Some.parent = sym c.parent_of.ensures.parent ∙ c.in-Some.is in
    record { joined = (subst (IsParent c.args.mesh.now rows.base v) is (c.requires.climbed.valid.parents v c.requires.vertex)).1 }

pub returns-clause-summed : goal.returns-clause-summed
returns-clause-summed c d to taken before =
    let mesh = c.args.mesh.now in
    let rows = c.args.rows.now in
    let v = c.args.v in
    let sets = c.args.sums.now.sets in
    let way = way_class mesh d (certified_tree mesh rows) in
    let put : slice_index c.put.new.self.sets v ≡ c.match-parent_of.sum =
    ap (λ (t : Signed). slice_index t.sets v) c.put.ensures.put
    ∙ get_or-set_same sets v c.bits.result 0 (omega (arith, c.requires.vertex, c.requires.room)) ∙ c.bits.ensures in
    put ∙ (elim c.match-parent_of.branch [
      | in-Some x ↦
          let p = x.in-Some.parent in
          let above = x.of.result in
          let added = x.signature.result in
          let is : parent_at rows v ≡ Some p = sym c.parent_of.ensures.parent ∙ x.in-Some.is in
          let step = step_up mesh rows v p c.requires.climbed c.requires.vertex is in
          let edge : x.edge_between.result ≡ (certified_tree mesh rows).up v =
          x.edge_between.ensures.edge ∙ ap (λ o. edge_number mesh (unwrap_or o 0, v)) (sym is) in
          let sum : c.match-parent_of.sum ≡ bit_xor (bit_xor 0 above) added =
          x.sum-is ∙ x.add-in-Some.ensures ∙ ap (λ n. bit_xor n added) (x.add.ensures ∙ ap (λ z. bit_xor z above) c.zero-sum.ensures) in
          way_summed mesh d to c.args.signs.now.sets taken rows c.requires.climbed v x.edge_between.result p above added c.match-parent_of.sum
          c.requires.vertex step edge x.signature.ensures.set (x.of.ensures.set ∙ before p is) sum
      | in_default x ↦
          let none : parent_at rows v ≡ None = sym c.parent_of.ensures.parent ∙ x.in_default.is in
          way_empty mesh d to c.args.signs.now.sets taken rows c.requires.climbed v c.match-parent_of.sum
          (at_base mesh rows v c.requires.climbed c.requires.vertex none) (x.sum-is ∙ c.zero-sum.ensures)
    ])
