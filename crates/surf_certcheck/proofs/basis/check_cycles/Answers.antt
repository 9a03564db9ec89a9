use Rattle.std.proofs.Common.{◌∙◌, sym}
use Rattle.surf_certcheck.proofs.BasisFaults.{basis_valid}
use Rattle.surf_lengths.proofs.Positive.{lengths_positive}
use Rattle.surf_certcheck.proofs.Validity.{has_split, cycles_size}
use Rattle.surf_certcheck.proofs.basis.check_cycles.Goals as goal

pub sign_edges-requires-clause-split : goal.sign_edges-requires-clause-split
sign_edges-requires-clause-split c =
    has_split c.args.case.now.mesh.now c.args.case.now.lengths.now c.args.case.now.cert.now c.law_of_surface.ensures.surface
    (lengths_positive c.args.case.now.mesh.now c.args.case.now.lengths.now c.law_of_lengths.ensures.lengths c.args.case.now.measured)
    c.requires.divided

pub frame_cycles-requires-clause-places : goal.frame_cycles-requires-clause-places
frame_cycles-requires-clause-places c =
    cycles_size c.args.case.now.mesh.now c.args.case.now.cert.now c.requires.divided.shape
    (has_split c.args.case.now.mesh.now c.args.case.now.lengths.now c.args.case.now.cert.now c.law_of_surface.ensures.surface
    (lengths_positive c.args.case.now.mesh.now c.args.case.now.lengths.now c.law_of_lengths.ensures.lengths c.args.case.now.measured)
    c.requires.divided)

pub frame_cycles-requires-clause-width : goal.frame_cycles-requires-clause-width
frame_cycles-requires-clause-width c =
    c.in_ok-signs.ensures.width
    ∙ sym (cycles_size c.args.case.now.mesh.now c.args.case.now.cert.now c.requires.divided.shape
    (has_split c.args.case.now.mesh.now c.args.case.now.lengths.now c.args.case.now.cert.now c.law_of_surface.ensures.surface
    (lengths_positive c.args.case.now.mesh.now c.args.case.now.lengths.now c.law_of_lengths.ensures.lengths c.args.case.now.measured)
    c.requires.divided))

pub returns-in-None-clause-valid : goal.returns-in-None-clause-valid
returns-in-None-clause-valid c = (
  basis_valid c.args.case.now.mesh.now c.args.case.now.lengths.now c.args.case.now.cert.now c.requires.divided c.requires.closed
      c.in_ok-frame.ensures.independent c.in-None.ensures.first,
  c.total_length.ensures.total,
)
