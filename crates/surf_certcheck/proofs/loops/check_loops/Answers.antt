use Rattle.surf_lengths.proofs.Positive.{lengths_positive}
use Rattle.surf_certcheck.proofs.Totals.{least_where_ok, none_where_err}
use Rattle.surf_certcheck.proofs.Places.{loops_in_order}
use Rattle.surf_certcheck.proofs.loops.check_loops.Goals as goal

pub returns-clause-least : goal.returns-clause-least
returns-clause-least c =
    let mesh = c.args.mesh.now in
    let lengths = c.args.lengths.now in
    least_where_ok mesh lengths c.args.cert.now c.law_of_surface.ensures.surface
    (lengths_positive mesh lengths c.law_of_lengths.ensures.lengths c.requires.lengths) c.check_edges.result
    c.check_edges.ensures.valid

pub returns-clause-excludes : goal.returns-clause-excludes
returns-clause-excludes c =
    none_where_err c.args.mesh.now c.args.lengths.now c.args.cert.now c.check_edges.result c.check_edges.ensures.fault

pub returns-clause-in_order : goal.returns-clause-in_order
returns-clause-in_order c =
    let mesh = c.args.mesh.now in
    let lengths = c.args.lengths.now in
    loops_in_order mesh lengths c.args.cert.now c.law_of_surface.ensures.surface
    (lengths_positive mesh lengths c.law_of_lengths.ensures.lengths c.requires.lengths) c.check_edges.result
    c.check_edges.ensures.valid
