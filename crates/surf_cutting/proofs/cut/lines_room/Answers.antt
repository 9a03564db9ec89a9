use Rattle.surf_answers.proofs.Common.{◌≡◌, ◌<◌, ◌^◌, ℕ, get_or, ◌∙◌, ap, inl, inr, arith, cases_lt, All-from_get_or, other_default}
use Rattle.surf_cutting.proofs.cut.lines_room.Goals as goal

pub loop-v-preserved : goal.loop-v-preserved
loop-v-preserved c k lt =
    let origins = c.args.origins.now in
    let i = c.loop-v.v-index in
    elim (cases_lt k i) [
      | inl before ↦ c.loop-v.invariant k before
      | inr not_before ↦
          let v : ℕ = c.v-item.result in
          let is : v ≡ get_or origins i 0 = c.v-item.is ∙ other_default origins i c.v-item.result 0 c.loop-v-test.true in
          let same : k ≡ i = omega (arith, lt, not_before) in
          let here : get_or origins k 0 ≡ get_or origins i 0 = ap (λ (j : ℕ). get_or origins j 0) same in
          let small : v < 2 ^ 32 = omega (arith, c.number.ensures) in
          omega (arith, is, here, small)
    ]

pub returns : goal.returns
returns c = record {
  small = All-from_get_or (λ v. v < 2 ^ 32) c.args.origins.now 0 (λ k lt. c.loop-v.invariant k (omega (arith, lt, c.loop-v-test.false)));
}
