use Rattle.surf_slit.proofs.Common.{◌≡◌, subst, arith, edges_few}
use Rattle.surf_cutter.proofs.Common.{HasNoLeafFrom}
use Rattle.surf_cutter.proofs.Trims.{has_ended}
use Rattle.surf_cutter.proofs.trimming.trim.Goals as goal

pub count_cut-left-requires : goal.count_cut-left-requires
count_cut-left-requires c = omega (arith, c.requires.degrees.flags, edges_few c.args.mesh.now c.law_of_surface.ensures.surface, c.law_of_surface.ensures.few)

pub returns-clause-ended : goal.returns-clause-ended
returns-clause-ended c =
    let i = c.loop-low.invariant in
    let zero_low : c.loop-low.low ≡ 0 = omega (arith, c.loop-low-test.false) in
    has_ended c.loop-low.cut c.loop-low.degree c.loop-low.left i.degrees i.counted (subst (λ low. HasNoLeafFrom c.args.mesh.now low c.loop-low.degree c.loop-low.left) zero_low i.above)
