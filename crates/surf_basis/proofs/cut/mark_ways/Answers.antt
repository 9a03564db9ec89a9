use Rattle.surf_basis.proofs.Common.{tree_of, HasVertex, IsClosedUpward, IsLeastSet, ◌≡◌, ◌<◌, ◌≤◌, ℕ, length, sym, ap, ◌∙◌, subst, arith, slice_index, get_or_default, edge_count, ends, is_marked, ends_inside}
use Rattle.surf_basis.proofs.OnCut.{ways_begun, ways_more, ways_done}
use Rattle.surf_basis.proofs.cut.mark_ways.Goals as goal

pub loop-e-init : goal.loop-e-init
loop-e-init c = record {
  count = c.requires.marks;
  ways = ways_begun c.args.mesh.now (tree_of c.args.tree.now) c.args.edges.now (is_marked c.args.marked.now) c.requires.parents;
}

pub mark_way-requires-clause-vertex : goal.mark_way-requires-clause-vertex
mark_way-requires-clause-vertex c =
    let mesh = c.args.mesh.now in
    let e_in : c.e-item.result < edge_count mesh =
    subst (λ (n : ℕ). n < edge_count mesh) (sym c.e-item.is) (c.requires.edges c.loop-e.e-index c.e-item.result c.loop-e-test.true) in
    let inside = ends_inside mesh c.law_of_surface.ensures.surface c.e-item.result e_in c.ends-low.result c.ends-low.ensures in
    omega (arith, inside.0, c.loop-e.invariant.count)

pub mark_way-requires-clause-parents : goal.mark_way-requires-clause-parents
mark_way-requires-clause-parents c =
    subst (λ (n : ℕ). IsClosedUpward n (tree_of c.args.tree.now) (is_marked c.loop-e.marked)) (sym c.loop-e.invariant.count) c.loop-e.invariant.ways.parents

pub mark_way-requires-in-loop-e-clause-vertex : goal.mark_way-requires-in-loop-e-clause-vertex
mark_way-requires-in-loop-e-clause-vertex c =
    let mesh = c.args.mesh.now in
    let e_in : c.e-item.result < edge_count mesh =
    subst (λ (n : ℕ). n < edge_count mesh) (sym c.e-item.is) (c.requires.edges c.loop-e.e-index c.e-item.result c.loop-e-test.true) in
    let inside = ends_inside mesh c.law_of_surface.ensures.surface c.e-item.result e_in c.ends-low.result c.ends-low.ensures in
    omega (arith, inside.1, c.loop-e.invariant.count, c.mark_way.ensures.count)

pub loop-e-preserved : goal.loop-e-preserved
loop-e-preserved c =
    let mesh = c.args.mesh.now in
    let tree = tree_of c.args.tree.now in
    let edges = c.args.edges.now in
    let i = c.loop-e.e-index in
    let p = c.ends-low.result in
    let before = c.loop-e.invariant.count in
    let between : length c.mark_way.new.marked ≡ mesh.vertices = c.mark_way.ensures.count ∙ before in
    let at : c.e-item.result ≡ slice_index edges i = c.e-item.is ∙ get_or_default edges i c.e-item.result 0 c.loop-e-test.true in
    let first = subst (λ (n : ℕ). IsLeastSet n tree (HasVertex p.0) (is_marked c.loop-e.marked) (is_marked c.mark_way.new.marked)) before c.mark_way.ensures.way in
    let second = subst (λ (n : ℕ). IsLeastSet n tree (HasVertex p.1) (is_marked c.mark_way.new.marked) (is_marked c.mark_way-in-loop-e.new.marked)) between
    c.mark_way-in-loop-e.ensures.way in
    record {
      count = c.mark_way-in-loop-e.ensures.count ∙ between;
      ways = ways_more mesh tree edges i (is_marked c.args.marked.now) (is_marked c.loop-e.marked) (is_marked c.mark_way.new.marked)
          (is_marked c.mark_way-in-loop-e.new.marked) p c.loop-e-test.true (c.ends-low.ensures ∙ ap (ends mesh) at) c.loop-e.invariant.ways first second;
    }

pub returns-clause-ways : goal.returns-clause-ways
returns-clause-ways c =
    let past : length c.args.edges.now ≤ c.loop-e.e-index = omega (arith, c.loop-e-test.false) in
    ways_done c.args.mesh.now (tree_of c.args.tree.now) c.args.edges.now c.loop-e.e-index (is_marked c.args.marked.now) (is_marked c.loop-e.marked)
    c.loop-e.invariant.ways past
