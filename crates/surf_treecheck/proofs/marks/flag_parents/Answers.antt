use Rattle.surf_surfaces.specs.Surface.{edge_count}
use Rattle.surf_validity.specs.Valid.{parent_at, leads_up}
use Rattle.surf_treecheck.proofs.Flags.{more_flags}
use Rattle.surf_treecheck.proofs.marks.flag_parents.Goals as goal

pub loop-v-preserved : goal.loop-v-preserved
loop-v-preserved c =
    let mesh = c.args.mesh.now in
    more_flags (edge_count mesh) c.loop-v.v (λ e v. leads_up mesh e v (parent_at c.args.rows.now v)) c.loop-v.flags
    c.flag_parent.new.flags c.loop-v.invariant c.flag_parent.ensures.count c.flag_parent.ensures.flagged
