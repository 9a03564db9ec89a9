use Rattle.surf_surfaces.proofs.Common.{◌<◌, ℕ, sym, ap, subst, ◌∙◌, arith, inl, inr, cases_eq, face_count, IsFaceOf}
use Rattle.surf_soup.specs.Reach.{marked}
use Rattle.surf_soup.proofs.ReachSteps.{marked-inside}
use Rattle.surf_soup.proofs.SideNumbers.{one_face}
use Rattle.surf_check.specs.Growth.{IsCrossed}
use Rattle.surf_check.proofs.GrowthLaws.{grows_on_both, crossed_still}
use Rattle.surf_check.proofs.growth.go_over.Goals as goal

pub cross-requires-clause-from : goal.cross-requires-clause-from
cross-requires-clause-from c = λ f h.
    let mesh = c.args.mesh.now in
    let s = c.new.result in
    let face : c.args.face < face_count mesh = let n = c.requires.grows.seen_count in
    let m = marked-inside c.args.tree.now.seen.items c.args.face c.requires.face in omega arith in
    let own : IsFaceOf mesh s c.args.face = record {
      is_face = face;
      from = omega (arith, c.new.ensures, c.loop-s.invariant.from);
      upto = omega (arith, c.new.ensures, c.loop-s-test.true, c.side_span-start.ensures.end);
    } in
    ap (marked c.loop-s.tree.seen.items) (one_face mesh s f c.args.face h own)
    ∙ c.loop-s.invariant.on.stay c.args.face c.requires.face

pub loop-s-preserved : goal.loop-s-preserved
loop-s-preserved c =
    let mesh = c.args.mesh.now in
    let old = c.loop-s.tree in
    let new = c.cross.new.tree in
    let start = c.args.tree.now in
    let s = c.loop-s.s in
    let e = c.in_ok-cross.ensures in
    let P : ℕ → Type 0 = IsCrossed mesh new.seen.items in
    record {
      grows = e.grows;
      on = grows_on_both start.seen.items old.seen.items new.seen.items start.listed.items old.listed.items
          new.listed.items c.loop-s.invariant.on e.on;
      from = let below = c.loop-s.invariant.from in omega (arith, below);
      crossed = λ j from lt. elim (cases_eq j s) [
        | inl q ↦ subst P (c.new.ensures ∙ sym q) e.crossed
        | inr ne ↦ crossed_still mesh old.seen.items new.seen.items old.listed.items new.listed.items j e.on
            (c.loop-s.invariant.crossed j from (omega arith))
      ];
    }

pub returns-clause-crossed : goal.returns-clause-crossed
returns-clause-crossed c = λ s h.
    c.loop-s.invariant.crossed s h.from
    (omega (arith, h.upto, c.side_span-start.ensures.end, c.loop-s-test.false))
