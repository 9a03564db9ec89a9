use Rattle.std.proofs.Common.{◌<◌, length, ◌∙◌, arith, inl, inr, length-set, Some}
use Rattle.surf_class.proofs.FaceSides.{known_up, noted, now_known, still_known}
use Rattle.surf_class.proofs.sides.note_sides.Goals as goal

pub loop-at-preserved : goal.loop-at-preserved
loop-at-preserved c =
    let mesh = c.args.flagged.now.mesh.now in
    let t = c.args.cotree.now in
    let flags = c.args.flagged.now.flags.now in
    let at = c.loop-at.at in
    let place = c.index-in-loop-at.result in
    let side = c.loop-at.side in
    let inv = c.loop-at.invariant in
    let here : place < length c.loop-at.sides = omega (arith, c.index-in-loop-at.ensures, inv.within, inv.count) in
    let up = c.in-Some.ensures.above in
    record {
      within = c.in-Some.ensures.inside.0;
      count = length-set c.loop-at.sides place (Some side) ∙ inv.count;
      right = λ set parted is are.
          let both = inv.right set parted is are in (
            known_up mesh t flags set parted at _ _ c.index-in-loop-at-2.result inv.within up.0 up.1 up.2
                c.index-in-loop-at-2.ensures side both.0,
            noted set c.loop-at.sides place at side c.index-in-loop-at.ensures here both.0 both.1,
          );
      known = elim inv.known [
        | inl is ↦ inl (still_known c.loop-at.sides place side c.args.face here is)
        | inr is ↦ inl (now_known c.loop-at.sides place c.args.face side (c.index-in-loop-at.ensures ∙ is) here)
      ];
      kept = λ f is. still_known c.loop-at.sides place side f here (inv.kept f is);
    }
