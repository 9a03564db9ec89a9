use Rattle.surf_lengths.proofs.Positive.{lengths_positive}
use Rattle.surf_sheetcheck.proofs.FaultLaws.{least_where_ok, ordered_where_ok, none_where_err}
use Rattle.surf_sheetcheck.proofs.check.check_sheets.Goals as goal

pub returns-clause-least : goal.returns-clause-least
returns-clause-least c =
    let mesh = c.args.mesh.now in
    let lengths = c.args.lengths.now in
    least_where_ok mesh lengths c.args.cert.now c.law_of_surface.ensures.surface (lengths_positive mesh lengths c.law_of_lengths.ensures.lengths c.requires.lengths)
    c.law_of_sheets.ensures.least c.check_pairs.result c.check_pairs.ensures.valid

pub returns-clause-in_order : goal.returns-clause-in_order
returns-clause-in_order c =
    let mesh = c.args.mesh.now in
    let lengths = c.args.lengths.now in
    ordered_where_ok mesh lengths c.args.cert.now c.law_of_surface.ensures.surface (lengths_positive mesh lengths c.law_of_lengths.ensures.lengths c.requires.lengths)
    c.law_of_sheets.ensures.in_order c.check_pairs.result c.check_pairs.ensures.valid

pub returns-clause-excludes : goal.returns-clause-excludes
returns-clause-excludes c =
    let mesh = c.args.mesh.now in
    let lengths = c.args.lengths.now in
    none_where_err mesh lengths c.args.cert.now c.law_of_surface.ensures.surface (lengths_positive mesh lengths c.law_of_lengths.ensures.lengths c.requires.lengths)
    c.check_pairs.result c.check_pairs.ensures.fault
