use Rattle.surf_surfaces.proofs.Common.{◌<◌, ℕ, length, get_or, sym, ap, subst, ◌∙◌, arith, inl, inr, cases_eq, get_or_read, IsFaceOf}
use Rattle.surf_check.proofs.GrowthLaws.{crossed_still, whole_tree, flags_follow}
use Rattle.surf_check.proofs.growth.grow.Goals as goal

pub loop-k-preserved : goal.loop-k-preserved
loop-k-preserved c =
    let mesh = c.args.mesh.now in
    let old = c.loop-k.tree in
    let new = c.go_over.new.tree in
    let k = c.loop-k.k in
    let e = c.in_ok-go_over.ensures in
    let lt : k < length old.listed.items = omega (arith, c.loop-k-test.true, c.len.ensures) in
    let read = get_or_read old.listed.items k c.index-face.result.now lt c.index-face.ensures 0 in
    record {
      grows = e.grows;
      done = λ i below s h. elim (cases_eq i k) [
        | inl q ↦
            let P : ℕ → Type 0 = IsFaceOf mesh s in
            e.crossed s (subst P (ap (λ n. get_or new.listed.items n 0) q ∙ e.on.kept k lt ∙ sym read) h)
        | inr ne ↦
            let P : ℕ → Type 0 = IsFaceOf mesh s in
            let less : i < k = omega arith in
            crossed_still mesh old.seen.items new.seen.items old.listed.items new.listed.items s e.on
            (c.loop-k.invariant.done i less s (subst P (e.on.kept i (omega arith)) h))
      ];
    }

pub returns : goal.returns
returns c =
    let mesh = c.args.mesh.now in
    let t = c.loop-k.tree in
    let g = c.loop-k.invariant.grows in
    let surface = c.law_of_surface.ensures.surface in
    let done : (i : ℕ) → i < length t.listed.items → (s : ℕ) → IsFaceOf mesh s (get_or t.listed.items i 0) →
    Rattle.surf_check.specs.Growth.IsCrossed mesh t.seen.items s =
    λ i lt. c.loop-k.invariant.done i (omega (arith, c.loop-k-test.false, c.len.ensures)) in
    record {
      parents = g.parents;
      ups = g.ups;
      flag_count = g.flag_count;
      is_tree = whole_tree mesh surface t.parent.items t.up.items t.rank.items t.flags.items t.seen.items
          t.listed.items g done;
      follows = flags_follow mesh surface t.parent.items t.up.items t.rank.items t.flags.items t.seen.items
          t.listed.items g done;
    }
