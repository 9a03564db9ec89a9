use Rattle.std.proofs.Common.{not, ap}
use Rattle.surf_check.specs.Growth.{flag_of}
use Rattle.surf_check.proofs.Misfits.{misfit_at}
use Rattle.surf_check.proofs.orienting.fits.Goals as goal

pub returns : goal.returns
returns c = λ e is.
    let mesh = c.args.mesh.now in
    let flags = flag_of c.args.flags.now in
    let at = misfit_at mesh c.law_of_surface.ensures.surface flags c.args.side c.mate-across.result
    c.face_of-first.result c.face_of-second.result e c.tail.result c.tail-2.result c.mate-across.ensures
    c.face_of-first.ensures c.face_of-second.ensures is c.tail.ensures c.tail-2.ensures in
    rw (c.differ.ensures, c.differ-apart.ensures, c.eq-same.ensures, c.index.ensures, c.index-2.ensures) (ap not at)
