use Rattle.surf_surfaces.proofs.Common.{◌≤◌, ◌+◌, ◌<◌, ℕ, length, get_or, sym, subst, inl, inr, arith, cases_eq, get_or_default, get_or-take, length-take}
use Rattle.surf_off.specs.declared.parts.Span.{Span}
use Rattle.surf_off.proofs.off_places.front_of.Goals as goal

nowhere : Span
nowhere = record { start = 0; len = 0 }

pub loop-span-preserved : goal.loop-span-preserved
unfolding nowhere
loop-span-preserved c =
    let spans = c.args.spans.now in
    let i = c.loop-span.span-index in
    let top = c.max-end.result in
    let lt : i < length spans = c.loop-span-test.true in
    let most = c.max-end.ensures in
    let P : Span → Type 0 = λ s. s.start + s.len ≤ top in
    let here : (get_or spans i nowhere).start + (get_or spans i nowhere).len ≤ top = omega (arith, most) in
    record {
      within = λ k d h.
          let n = length-take (i + 1) spans in
          let low : k < i + 1 = omega (arith, n) in
          subst P (sym (get_or-take (i + 1) spans k d low)) (elim (cases_eq k i) [
            | inl e ↦ subst (λ (j : ℕ). P (get_or spans j d)) (sym e) (subst P (get_or_default spans i nowhere d lt) here)
            | inr ne ↦
                let m = length-take i spans in
                let before : k < i = omega arith in
                let was = c.loop-span.invariant.within k d (omega (arith, m)) in
                let same = get_or-take i spans k d before in
                let Q : Span → Type 0 = λ s. s.start + s.len ≤ c.loop-span.end in
                let now = subst Q same was in
                let still : (get_or spans k d).start + (get_or spans k d).len ≤ top = omega (arith, now, most) in
                still
          ]);
      least = λ n w.
          let at = w i nowhere lt in
          let l = c.loop-span.invariant.least n w in
          omega (arith, most, at, l);
    }

pub returns-clause-within : goal.returns-clause-within
returns-clause-within c k d h =
    let spans = c.args.spans.now in
    let i = c.loop-span.span-index in
    let end = c.loop-span-test.false in
    let low : k < i = omega (arith, end) in
    let m = length-take i spans in
    let Q : Span → Type 0 = λ s. s.start + s.len ≤ c.loop-span.end in
    subst Q (get_or-take i spans k d low) (c.loop-span.invariant.within k d (omega (arith, m)))
