use Rattle.surf_cotree.proofs.Common.{ℕ, ◌≡◌, ◌<◌, ◌&&◌, ◌∙◌, List, Bool, not, filter, length, arith, ap, subst, range_with_len, dual, edge_count, cells_of, with_items, with_items_is, flag, outside, IsPeeledTo, HasMarking}
use Rattle.surf_cotree.proofs.MarkedTables.{edges_grown}
use Rattle.surf_cotree.proofs.edges.CotreeEdges.find.Goals as goal

pub returns : goal.returns
returns gen c =
    let mesh = c.args.mesh.now in
    let g = dual (cells_of mesh) in
    let in_tree = c.args.in_tree.now in
    let weight = gen.W.Weights.weight c.args.weight.now in
    let first = c.in_ok-marks.marks in
    let peeled = c.mark_leaves.new.marks in
    let marks = c.mark_tree.new.marks in
    let held = c.unmark.new.marks in
    let copied : first.items ≡ in_tree = c.in_ok-marks.ensures.items_if_clones_equal (λ x y same. same) in
    let count : length first.items ≡ edge_count mesh = ap length copied ∙ c.requires.marks in
    let start : c.deref_mut.result.now ≡ in_tree = c.deref_mut.ensures.value ∙ copied in
    let peeled_is : (with_items first peeled).items ≡ peeled = with_items_is first peeled (omega (arith, c.deref_mut.ensures.len)) in
    let marks_are : (with_items (with_items first peeled) marks).items ≡ marks = with_items_is (with_items first peeled) marks (omega (arith, c.deref_mut-2.ensures.len)) in
    let held_is : (with_items (with_items (with_items first peeled) marks) held).items ≡ held = with_items_is (with_items (with_items first peeled) marks) held (omega (arith, c.deref_mut-3.ensures.len)) in
    let between : c.deref_mut-2.result.now ≡ peeled = c.deref_mut-2.ensures.value ∙ peeled_is in
    let after : c.deref.result.now ≡ marks = c.deref.ensures.value ∙ marks_are in
    let last : c.deref_mut-3.result.now ≡ marks = c.deref_mut-3.ensures.value ∙ marks_are in
    let wide : length marks ≡ edge_count mesh = omega (arith, c.deref_mut-2.ensures.len, c.deref_mut.ensures.len, count) in
    let long : length held ≡ edge_count mesh = omega (arith, c.deref_mut-3.ensures.len, c.deref_mut-2.ensures.len, c.deref_mut.ensures.len, count) in
    let p : IsPeeledTo g (outside in_tree) (outside peeled) = subst (λ (x : List Bool). IsPeeledTo g (outside x) (outside peeled)) start c.in_ok-mark_leaves.ensures.peeled in
    let m : HasMarking g (outside peeled) weight marks = subst (λ (x : List Bool). HasMarking g (outside x) weight marks) between c.in_ok-mark_tree.ensures.marking in
    let holds : (e : ℕ) → e < edge_count mesh → flag held e ≡ (flag marks e && not (flag in_tree e)) = λ e l.
    subst (λ (x : List Bool). flag held e ≡ (flag x e && not (flag in_tree e))) last (c.unmark.ensures.marks e (let n = ap length last in omega (arith, n, wide, l)))
    in
    let listed : c.in_ok-left.left.items ≡ filter (outside marks) (range_with_len 0 (edge_count mesh)) =
    subst (λ n. c.in_ok-left.left.items ≡ filter (outside marks) (range_with_len 0 n)) wide
    (subst (λ (x : List Bool). c.in_ok-left.left.items ≡ filter (outside x) (range_with_len 0 (length x))) after c.in_ok-left.ensures.listed)
    in
    rw held_is (record {
      grown = edges_grown mesh in_tree weight c.law_of_surface.ensures.surface (omega (arith, c.law_of_surface.ensures.edges)) (omega (arith, c.law_of_surface.ensures.faces)) (gen.met.W.Weights.light c.args.weight.now) c.requires.tree
          peeled marks p m held c.in_ok-left.left.items long holds listed;
    })
