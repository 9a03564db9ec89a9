use Rattle.surf_treecheck.proofs.Common.{◌≡◌, ◌<◌, ◌≤◌, ◌∙◌, inl, inr, length, get_or, slice_index, sym, ap, subst, arith, range_with_len, cases_eq, cases_lt, get_or_default, IsPermutation-trans, certified_tree, distance_at}
use Rattle.surf_certcheck.proofs.Common.{way_class}
use Rattle.surf_certcheck.proofs.Climbing.{order_in, listed, step_up}
use Rattle.surf_certcheck.proofs.sums.sum_ways.Goals as goal

pub sum_way-requires-clause-vertex : goal.sum_way-requires-clause-vertex
sum_way-requires-clause-vertex c =
    let n = c.args.mesh.now.vertices in
    let order = c.sort_vertices.new.order in
    let v = c.index-order-k.result in
    let all = IsPermutation-trans (range_with_len 0 n) c.args.order.now order c.requires.all c.sort_vertices.ensures.same in
    subst (λ u. u < n) (sym c.index-order-k.is) (order_in n c.loop-k.k v order all (omega (arith, c.loop-k-test.true, c.loop-k.auto.k-end)))

pub loop-k-preserved : goal.loop-k-preserved
loop-k-preserved c =
    let mesh = c.args.mesh.now in
    let rows = c.args.rows.now in
    let n = mesh.vertices in
    let order = c.sort_vertices.new.order in
    let k = c.loop-k.k in
    let v = c.index-order-k.result in
    let inside : k < length order = omega (arith, c.loop-k-test.true, c.loop-k.auto.k-end) in
    let all = IsPermutation-trans (range_with_len 0 n) c.args.order.now order c.requires.all c.sort_vertices.ensures.same in
    let v_in : v < n = subst (λ u. u < n) (sym c.index-order-k.is) (order_in n k v order all inside) in
    let at : slice_index order k ≡ v = get_or_default order k 0 v inside ∙ sym c.index-order-k.is in
    record {
      summed = λ d to taken j lj.
          let way = way_class mesh d (certified_tree mesh rows) in
          let old = c.loop-k.sums.sets in
          let new = c.sum_way.new.sums.sets in
          let here : slice_index new v ≡ to (way v) = c.sum_way.ensures.summed d to taken (λ p is.
          let step = step_up mesh rows v p c.requires.climbed v_in is in
          let (i, il, p_at) = listed n p order all step.within in
          let place : slice_index order i ≡ p = get_or_default order i 0 p il ∙ p_at in
          let earlier : i < k = elim (cases_lt i k) [
            | inl less ↦ less
            | inr le ↦
                let rises : distance_at rows (get_or order k 0) ≤ distance_at rows (get_or order i 0) = c.sort_vertices.ensures.sorted k i 0 le il in
                let near = step.nearer in
                absurd (omega (arith, rises, near, ap (distance_at rows) at, ap (distance_at rows) place))
          ] in
          ap (slice_index old) (sym place) ∙ c.loop-k.invariant.summed d to taken i earlier ∙ ap (λ u. to (way u)) place) in
          elim (cases_lt j k) [
            | inl less ↦ elim (cases_eq (slice_index order j) v) [
              | inl same ↦ ap (slice_index new) same ∙ here ∙ ap (λ u. to (way u)) (sym same)
              | inr ne ↦ c.sum_way.ensures.rest (slice_index order j) ne ∙ c.loop-k.invariant.summed d to taken j less
            ]
            | inr le ↦
                let last : j ≡ k = omega (arith, lj, le) in
                let same : slice_index order j ≡ v = ap (slice_index order) last ∙ at in
                ap (slice_index new) same ∙ here ∙ ap (λ u. to (way u)) (sym same)
          ];
      room = c.sum_way.ensures.room;
      width = c.sum_way.ensures.width;
    }

pub returns-clause-all : goal.returns-clause-all
returns-clause-all c =
    IsPermutation-trans (range_with_len 0 c.args.mesh.now.vertices) c.args.order.now c.sort_vertices.new.order c.requires.all c.sort_vertices.ensures.same

pub returns-clause-summed : goal.returns-clause-summed
returns-clause-summed c d to taken v l =
    let mesh = c.args.mesh.now in
    let n = mesh.vertices in
    let order = c.sort_vertices.new.order in
    let all = IsPermutation-trans (range_with_len 0 n) c.args.order.now order c.requires.all c.sort_vertices.ensures.same in
    let (i, il, v_at) = listed n v order all l in
    let place : slice_index order i ≡ v = get_or_default order i 0 v il ∙ v_at in
    let before : i < c.loop-k.k = omega (arith, il, c.loop-k-test.false, c.loop-k.auto.k-end) in
    ap (slice_index c.loop-k.sums.sets) (sym place) ∙ c.loop-k.invariant.summed d to taken i before
    ∙ ap (λ u. to (way_class mesh d (certified_tree mesh c.args.rows.now) u)) place
