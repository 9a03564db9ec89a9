use Rattle.std.proofs.Common.{arith}
use Rattle.surf_check.specs.Growth.{flag_of}
use Rattle.surf_check.proofs.Misfits.{all_fit}
use Rattle.surf_check.proofs.orienting.first_misfit.Goals as goal

pub returns : goal.returns
returns c = all_fit c.args.mesh.now c.law_of_surface.ensures.surface (flag_of c.args.flags.now)
    (λ s e lt is. c.loop-s.invariant s e (omega (arith, c.loop-s-test.false)) is)
