use Rattle.surf_surfaces.proofs.Common.{sym, ap, ◌∙◌, length, arith, ◌<◌, xor, xor-false}
use Rattle.surf_class.proofs.StepEdges.{differ_is}
use Rattle.surf_class.proofs.FaceSides.{climbed}
use Rattle.surf_class.proofs.sides.find_side.Goals as goal

pub returns-in-Some : goal.returns-in-Some
returns-in-Some c = record {
  side = λ set parted are.
      let at = c.index.result in
      let here : at < length c.args.sides.now = omega (arith, c.index.ensures, c.loop-known.invariant.within, c.requires.sides) in
      differ_is c.loop-known.side c.in-Some.known
      ∙ ap (xor c.loop-known.side) (are at c.in-Some.known here c.in-Some.is ∙ ap set c.index.ensures)
      ∙ c.loop-known.invariant.side set parted;
}

pub returns-in_default-above : goal.returns-in_default-above
returns-in_default-above c = record {
  side = λ set parted are.
      sym (xor-false c.loop-known.side) ∙ ap (xor c.loop-known.side) (sym (ap set c.in_default-above.ensures.above ∙ parted.without_first))
      ∙ c.loop-known.invariant.side set parted;
}

pub loop-known-preserved : goal.loop-known-preserved
loop-known-preserved c =
    let up = c.in-Some-above.ensures.above in
    record {
      within = c.in-Some-above.ensures.inside.0;
      side = λ set parted.
          climbed c.args.flagged.now.mesh.now c.args.cotree.now c.args.flagged.now.flags.now set parted c.loop-known.at _ _ c.index-in-loop-known.result
          c.loop-known.invariant.within up.0 up.1 up.2 c.index-in-loop-known.ensures c.loop-known.side
          ∙ c.loop-known.invariant.side set parted;
    }
