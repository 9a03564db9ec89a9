-- What a run over files that are told leaves in two sinks that didn't fail.
use Rattle.std.proofs.Common.{◌≡◌, ◌≢◌, ◌<◌, ◌≤◌, ◌⊎◌, inl, inr, ℕ, List, [], ◌++◌, length, take, Some, refl, sym, ◌∙◌, arith, subst}
use Rattle.std.proofs.lemmas.Bool.{cases_order}
use Rattle.surf_base.specs.Outside.{Files, HasRisen}
use Rattle.surf_texts.specs.Outcome.{misses}
use Rattle.surf_run.specs.Leads.{Answer, Leads}
use Rattle.surf_run.specs.Run.{IsLineOf, PutsLine, WritesAnswer}
use Rattle.surf_answers.specs.Tells.{IsTold}
use Rattle.surf_c.specs.Calls.{IsSaid}

pub unrisen : (old new : ℕ) → old ≡ 0 → new ≤ 0 → HasRisen old new → ⊥
unrisen old new none still risen =
    let small : new < 18446744073709551615 = omega (arith, still) in
    let more = risen small in
    omega (arith, none, still, more)

pub misses_said : (words : List (List ℕ)) (files : Files) → HasRisen 0 0 ⊎ IsTold (Some files) (λ held. Leads words held misses) →
    Leads words files misses
misses_said words files (inl risen) = absurd (unrisen 0 0 refl (omega arith) risen)
misses_said words files (inr told) = told

module _ (words : List (List ℕ)) (files : Files) (status : ℕ) (text : List ℕ) where
  pub answer_said : (old new : List ℕ) → old ≡ [] → text ≡ new → status ≤ 1 →
      WritesAnswer words status (Some old) (Some new) files → IsSaid words files status text
  answer_said old new none is low written =
      let front : old ++ written.0 ≡ written.0 = rw none refl in
      let same : text ≡ written.0 = is ∙ (written.2 ∙ front) in
      inl (low, subst (λ (said : List ℕ). Answer words files status said []) (sym same) written.1)

  by_status : 1 < status → status ≤ 15 → status ≢ 10 → (status ≡ 9 → Leads words files misses) →
      IsLineOf words (Some files) status text → IsSaid words files status text
  by_status high most no_write reads line = elim (cases_order status 9) [
    | inl nine ↦ inr (inr (inl (nine, reads nine, line.read nine)))
    | inr (inl less) ↦ inr (inl ((high, inl less), line.related (high, inl less) files (inl refl)))
    | inr (inr more) ↦ elim (cases_order status 11) [
      | inl eleven ↦ inr (inr (inr (inl (eleven, line.memory eleven))))
      | inr (inl less) ↦ absurd (no_write (omega (arith, more, less)))
      | inr (inr past) ↦ inr (inl ((high, inr past), line.related (high, inr past) files (inl refl)))
    ]
  ]

  pub line_said : (old new : List ℕ) (faults_old faults_new : ℕ) → old ≡ [] → text ≡ new → (HasRisen faults_old faults_new → ⊥) →
      1 < status → status ≤ 15 → status ≢ 10 → (status ≡ 9 → Leads words files misses) →
      (line : List ℕ) × IsLineOf words (Some files) status line × PutsLine (Some old) (Some new) faults_old faults_new line →
      IsSaid words files status text
  line_said old new faults_old faults_new none is quiet high most no_write reads written = elim written.2 [
    | inl grows ↦
        let front : old ++ written.0 ≡ written.0 = rw none refl in
        let same : text ≡ written.0 = is ∙ (grows ∙ front) in
        by_status high most no_write reads (subst (λ (said : List ℕ). IsLineOf words (Some files) status said) (sym same) written.1)
    | inr failed ↦ absurd (quiet failed.0)
  ]

pub said_of : (words others : List (List ℕ)) (files : Files) (status other : ℕ) (text : List ℕ) → words ≡ others → other ≡ status →
    IsSaid words files status text → IsSaid others files other text
said_of words others files status other text same is said = rw (sym same, is) said

pub put_of : (size : ℕ) (text said room : List ℕ) → size ≡ length text → text ≡ said →
    (length text ≤ length room → take (length text) room ≡ text) → size ≤ length room → take size room ≡ said
put_of size text said room long same put fits =
    let enough : length text ≤ length room = rw (sym long) fits in
    let front : take size room ≡ take (length text) room = rw long refl in
    front ∙ (put enough ∙ same)
