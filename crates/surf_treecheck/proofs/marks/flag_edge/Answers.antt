use Rattle.surf_treecheck.proofs.Common.{subst, IsEdgeBetween}
use Rattle.surf_treecheck.proofs.Flags.{flagged}
use Rattle.surf_treecheck.proofs.marks.flag_edge.Goals as goal

pub returns-in-Some-clause-flagged : goal.returns-in-Some-clause-flagged
returns-in-Some-clause-flagged c =
    let mesh = c.args.mesh.now in
    let is = subst (IsEdgeBetween mesh c.args.u c.args.v) c.in-Some.is c.requires.found in
    rw c.index.ensures
    (flagged mesh c.args.u c.args.v c.in-Some.edge c.args.flags.now c.requires.count is.0 is.1)
