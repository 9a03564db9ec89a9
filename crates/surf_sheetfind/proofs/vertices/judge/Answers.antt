use Rattle.surf_lengths.proofs.Positive.{lengths_positive}
use Rattle.surf_sheetfind.proofs.VertexCerts.{made_for, cert_fits, memory_where_err}
use Rattle.surf_sheetfind.proofs.vertices.judge.Goals as goal

pub check_sheets-requires-clause-fits : goal.check_sheets-requires-clause-fits
check_sheets-requires-clause-fits c =
    let mesh = c.args.mesh.now in
    let lengths = c.args.lengths.now in
    let surface = c.law_of_surface.ensures.surface in
    let given = made_for mesh lengths c.args.signatures.now c.args.cert.now surface
    (lengths_positive mesh lengths c.law_of_lengths.ensures.lengths c.requires.lengths) c.law_of_surface.ensures.vertices
    c.law_of_surface.ensures.faces c.law_of_surface.ensures.edges c.requires.least c.requires.by_length c.requires.signed in
    cert_fits mesh lengths c.args.signatures.now.signatures c.requires.signed.split c.args.cert.now given c.requires.made

pub returns-clause-fits : goal.returns-clause-fits
returns-clause-fits c =
    let mesh = c.args.mesh.now in
    let lengths = c.args.lengths.now in
    let surface = c.law_of_surface.ensures.surface in
    let given = made_for mesh lengths c.args.signatures.now c.args.cert.now surface
    (lengths_positive mesh lengths c.law_of_lengths.ensures.lengths c.requires.lengths) c.law_of_surface.ensures.vertices
    c.law_of_surface.ensures.faces c.law_of_surface.ensures.edges c.requires.least c.requires.by_length c.requires.signed in
    cert_fits mesh lengths c.args.signatures.now.signatures c.requires.signed.split c.args.cert.now given c.requires.made

pub returns-clause-memory : goal.returns-clause-memory
returns-clause-memory c =
    let mesh = c.args.mesh.now in
    let lengths = c.args.lengths.now in
    let surface = c.law_of_surface.ensures.surface in
    let given = made_for mesh lengths c.args.signatures.now c.args.cert.now surface
    (lengths_positive mesh lengths c.law_of_lengths.ensures.lengths c.requires.lengths) c.law_of_surface.ensures.vertices
    c.law_of_surface.ensures.faces c.law_of_surface.ensures.edges c.requires.least c.requires.by_length c.requires.signed in
    memory_where_err mesh lengths c.args.signatures.now.signatures c.requires.signed.split c.args.cert.now given
    c.requires.made c.check_sheets.result c.check_sheets.ensures.fault
