use Rattle.surf_surfaces.proofs.Common.{◌≡◌, ◌∙◌, refl, arith, inl, inr, cases_lt, subst}
use Rattle.surf_shown.specs.Shown.{IsServedEdge}
use Rattle.surf_shown.proofs.labels.are_served.Goals as goal

pub loop-e-preserved : goal.loop-e-preserved
loop-e-preserved c = λ k l. elim (cases_lt k c.loop-e.e) [
  | inl less ↦ c.loop-e.invariant k less
  | inr no_less ↦
      let same : c.loop-e.e ≡ k = omega (arith, l, no_less) in
      subst (IsServedEdge c.args.claim.now c.args.labels.now c.args.from c.args.to c.args.ends.now) (c.new.ensures ∙ same)
      (c.if-not-is_served.ensures.served refl)
]
