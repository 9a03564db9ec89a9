use Rattle.surf_search.proofs.Common.{◌<◌, ◌^◌, sym, subst, arith}
use Rattle.surf_search.proofs.Asked.{sign_small}
use Rattle.surf_finder.proofs.Signed.{signs_long}
use Rattle.surf_search.proofs.probes.height_of.Goals as goal

pub signature-signature-requires : goal.signature-signature-requires
signature-signature-requires c =
    let n = signs_long c.args.surface.now.mesh.now c.args.surface.now.signatures.now c.args.choice.now.width c.requires.signed in
    record { edge = omega (arith, n, c.requires.edge) }

pub sum_length-requires : goal.sum_length-requires
sum_length-requires c =
    let width = c.args.choice.now.width in
    record {
      small = subst (λ n. n < 2 ^ width) (sym c.signature-signature.ensures.signature)
          (sign_small c.args.surface.now.mesh.now c.args.surface.now.signatures.now width c.args.edge c.requires.signed c.requires.edge);
    }
