use Rattle.std.proofs.Common.{◌∙◌, ap, slice_index}
use Rattle.surf_cotree.specs.Tables.{cotree_of}
use Rattle.surf_validity.specs.Chosen.{side_in}
use Rattle.surf_loops.proofs.Rows.{listed_more}
use Rattle.surf_loops.proofs.cert.dual_rows.Goals as goal

pub loop-f-preserved : goal.loop-f-preserved
loop-f-preserved c =
    let mesh = c.args.mesh.now in
    let t = c.args.cotree.now in
    let f = c.loop-f.f in
    record {
      depths = listed_more (slice_index t.depths) f c.loop-f.depth.items c.push.new.self.items c.depth.result c.loop-f.invariant.depths
          c.in_ok-push.ensures.items (c.depth.ensures.depth ∙ ap (slice_index t.depths) c.new-face.ensures);
      sides = listed_more (side_in mesh (cotree_of t)) f c.loop-f.side.items c.push-in-loop-f.new.self.items c.side_of.result c.loop-f.invariant.sides
          c.in_ok-push-2.ensures.items (c.side_of.ensures.side ∙ ap (side_in mesh (cotree_of t)) c.new-face.ensures);
    }
