use Rattle.std.proofs.Common.{sym, subst}
use Rattle.surf_cover.specs.Grown.{IsSigned}
use Rattle.surf_loop_cases.proofs.Signed.{desk_signed}
use Rattle.surf_loop_cases.proofs.duals.signed.Goals as goal

pub returns : goal.returns
returns c = record {
  signed = subst (IsSigned c.args.mesh.now) (sym c.into_cotree.ensures.cotree)
      (desk_signed c.args.mesh.now c.in-Ok.desk c.sign.new.self c.in-Ok.ensures.grown c.sign.ensures.rest c.sign.ensures.made
      c.sign.ensures.signed);
}
