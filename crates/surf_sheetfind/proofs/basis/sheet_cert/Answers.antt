use Rattle.surf_surfaces.proofs.Common.{sym, subst}
use Rattle.surf_surfaces.specs.Homology.{IsLeastBasis}
use Rattle.surf_lengths.proofs.Positive.{lengths_positive}
use Rattle.surf_basis.specs.Cycles.{as_loops}
use Rattle.surf_sheets.specs.Sheets.{AreByLength}
use Rattle.surf_sheetfind.proofs.BasisLaws.{basis_by_length, cert_where_ok}
use Rattle.surf_sheetfind.proofs.basis.sheet_cert.Goals as goal

pub sheets_of_vertices-requires-clause-least : goal.sheets_of_vertices-requires-clause-least
sheets_of_vertices-requires-clause-least c =
    subst (IsLeastBasis c.args.mesh.now c.args.lengths.now) (sym c.in_ok-cycles.ensures.walks)
    c.in_ok-least_basis.ensures.least.least

pub sheets_of_vertices-requires-clause-by_length : goal.sheets_of_vertices-requires-clause-by_length
sheets_of_vertices-requires-clause-by_length c =
    let mesh = c.args.mesh.now in
    let lengths = c.args.lengths.now in
    subst (AreByLength mesh lengths) (sym c.in_ok-cycles.ensures.walks)
    (basis_by_length mesh lengths c.law_of_surface.ensures.surface
    (lengths_positive mesh lengths c.law_of_lengths.ensures.lengths c.requires.lengths)
    (as_loops c.in_ok-least_basis.field-0.items) c.in_ok-least_basis.ensures.chosen)

pub returns-clause-chosen : goal.returns-clause-chosen
returns-clause-chosen c =
    let mesh = c.args.mesh.now in
    let lengths = c.args.lengths.now in
    cert_where_ok mesh lengths c.law_of_surface.ensures.surface
    (lengths_positive mesh lengths c.law_of_lengths.ensures.lengths c.requires.lengths)
    (as_loops c.in_ok-least_basis.field-0.items) c.in_ok-least_basis.ensures.chosen c.sheets_of_vertices.result
    c.in_ok-cycles.cycles.items c.in_ok-cycles.ensures.walks c.sheets_of_vertices.ensures.cycles
