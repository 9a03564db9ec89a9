use Rattle.surf_basis.proofs.Common.{numbers_fit, as_loops, arith, lengths_positive}
use Rattle.surf_basis.proofs.Certified.{the_cert, valid_cert, fitting_cert}
use Rattle.surf_basis.proofs.cert.basis_cert.Goals as goal

pub returns : goal.returns
returns c =
    let mesh = c.args.mesh.now in
    let lengths = c.args.lengths.now in
    let surface = c.law_of_surface.ensures.surface in
    let positive = lengths_positive mesh lengths c.law_of_lengths.ensures.lengths c.requires.lengths in
    let numbers = numbers_fit mesh lengths (omega (arith, c.law_of_surface.ensures.vertices)) (omega (arith, c.law_of_surface.ensures.faces))
    (omega (arith, c.law_of_lengths.ensures.few)) c.requires.lengths c.law_of_lengths.ensures.lengths in
    let faces = c.in_ok-dual.ensures.rows in
    let is = the_cert mesh lengths surface positive faces.tables (as_loops c.in_ok-least_basis.field-0.items) c.make.result c.in_ok-trees.trees.items
    c.in_ok-dual.dual c.in_ok-dual.left.items c.in_ok-cycles.cycles.items faces.greedy c.in_ok-least_basis.ensures.chosen c.make.ensures.parts
    c.in_ok-trees.ensures.rows faces.dual_is faces.left_is c.in_ok-cycles.ensures.walks in
    record {
      chosen = is;
      valid = valid_cert mesh lengths surface positive c.make.result is;
      fits = fitting_cert mesh lengths surface positive c.make.result numbers is;
    }
