use Rattle.surf_answers.proofs.Common.{inr}
use Rattle.surf_answers.proofs.Commands.{OnSewnMesh, Ends, IsSurfaceOf, concludes_so}
use Rattle.surf_answers.specs.Sewing.{GivesSewn}
use Rattle.surf_cutting.proofs.commands.sew.sewn_disc.Goals as goal

pub returns-in-Ok : goal.returns-in-Ok
returns-in-Ok c =
    concludes_so (Ends (IsSurfaceOf c.args.sewn) (GivesSewn c.args.text.now c.args.origins.now))
    (OnSewnMesh (c.args.text.now, c.args.copies.now) c.args.origins.now c.args.sewn)
    (λ o end. inr (c.in-Ok.ensures.disc, end)) c.sewn_surface.result c.sewn_surface.ensures
