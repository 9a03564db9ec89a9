use Rattle.std.proofs.Common.{◌<◌, ◌∙◌, ap, arith, slice_index}
use Rattle.surf_tree.specs.Tables.{tree_of, parent_of}
use Rattle.surf_validity.specs.Chosen.{parent_in}
use Rattle.surf_loops.proofs.Rows.{listed_more, parent_shown}
use Rattle.surf_loops.proofs.cert.tree_rows.Goals as goal

pub loop-v-preserved : goal.loop-v-preserved
loop-v-preserved c =
    let mesh = c.args.mesh.now in
    let t = c.args.tree.now in
    let v = c.loop-v.v in
    let inside : v < mesh.vertices = omega (arith, c.loop-v-test.true, c.vertices-vertices.ensures.count) in
    record {
      distances = listed_more (slice_index t.distances) v c.loop-v.distance.items c.push.new.self.items c.distance.result c.loop-v.invariant.distances
          c.in_ok-push.ensures.items (c.distance.ensures.distance ∙ ap (slice_index t.distances) c.new-vertex.ensures);
      parents = listed_more (parent_in (tree_of t)) v c.loop-v.parent.items c.push-in-loop-v.new.self.items c.parent.result c.loop-v.invariant.parents
          c.in_ok-push-2.ensures.items (c.parent.ensures.parent ∙ ap (parent_of t) c.new-vertex.ensures ∙ parent_shown mesh t v c.requires.rooted inside);
    }
