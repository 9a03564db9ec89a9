use Rattle.surf_surfaces.specs.Surface.{edge_count}
use Rattle.surf_validity.specs.Valid.{side_at, is_side}
use Rattle.surf_treecheck.proofs.Flags.{more_flags}
use Rattle.surf_treecheck.proofs.marks.flag_sides.Goals as goal

pub loop-f-preserved : goal.loop-f-preserved
loop-f-preserved c =
    let mesh = c.args.mesh.now in
    more_flags (edge_count mesh) c.loop-f.f (λ e f. is_side mesh e (side_at c.args.dual.now f)) c.loop-f.flags
    c.flag_side.new.flags c.loop-f.invariant c.flag_side.ensures.count c.flag_side.ensures.flagged
