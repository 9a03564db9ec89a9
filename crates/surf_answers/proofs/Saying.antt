-- Texts on a page as answers.
use Rattle.surf_surfaces.proofs.Common.{◌≡◌, ◌∙◌, ◌++◌, ℕ, ◌<◌, ◌≤◌, Result, IsErrAnd, err_from_is_err_and, true, false, List, [], length, refl, sym, ap, subst, arith, nat_lt, lt-ltb, le-ltb}
use Rattle.surf_base.specs.declared.limits.LimitKind.TheVariants.{Answer}
use Rattle.surf_text.specs.Pages.{PageState, grown, Stops}
use Rattle.surf_text.specs.declared.page.PageFault.{PageFault}
use Rattle.surf_text.specs.declared.page.PageFault.TheVariants.{Full, Memory}
use Rattle.surf_texts.specs.Limits.{beyond}
use Rattle.surf_texts.specs.Refusals.{cause_of, of_page}
use Rattle.surf_answers.specs.Says.{Says}
use Rattle.surf_answers.specs.Tells.{Concludes, Why, verdict_status}
use Rattle.surf_answers.specs.declared.answered.Answered.{Answered}
use Rattle.surf_texts.specs.Outcome.{Outcome, answers}
use Rattle.surf_texts.specs.declared.refusal.Refused.{Refused}

-- an empty page for an answer
abbrev pub blank : PageState
blank = record { bytes = []; most = 1073741824 }

pub says_whole : (text bytes : List ℕ) → bytes ≡ text → length bytes ≤ 1073741824 → Says text (answers 0 bytes)
says_whole text bytes is within =
    let few : nat_lt 1073741824 (length text) ≡ false = le-ltb _ _ (subst (λ (t : List ℕ). length t ≤ 1073741824) is within) in
    rw few (ap (λ t. answers 0 t) is)

pub says_beyond : (text : List ℕ) → 1073741824 < length text → Says text (beyond Answer)
says_beyond text long =
    let many : nat_lt 1073741824 (length text) ≡ true = lt-ltb _ _ long in
    rw many refl

-- a text that doesn't fit on a blank page is too long an answer
pub why_overfilled : (end : Outcome → Type 0) (text : List ℕ) (fault : PageFault) → (1073741824 < length text → end (beyond Answer)) →
    Stops blank text fault → Why end (cause_of (of_page fault))
why_overfilled end text Full long over = long (omega (arith, over))
why_overfilled end text Memory long over = tt

-- an answer that is another ends as that does
pub ends_as : (end : Outcome → Type 0) (a b : Answered) → a ≡ b → end (answers (verdict_status b.verdict) b.text.items) →
    end (answers (verdict_status a.verdict) a.text.items)
ends_as end a b same said = subst (λ (x : Answered). end (answers (verdict_status x.verdict) x.text.items)) (sym same) said

-- ---- a text that is put on a blank page

module _ (end : Outcome → Type 0) (text : List ℕ) (page : PageState) (is_blank : page ≡ blank) (ends : (o : Outcome) → Says text o → end o) where
  -- it was put there, and what the page then holds is the answer
  pub page_answered : (new : PageState) → new ≡ grown page text → (a b : Answered) → a ≡ b → verdict_status b.verdict ≡ 0 → b.text.items ≡ new.bytes →
      length b.text.items ≤ new.most → end (answers (verdict_status a.verdict) a.text.items)
  page_answered new filled a b same good is within =
      let most : new.most ≡ 1073741824 = ap (λ (p : PageState). p.most) filled ∙ ap (λ (p : PageState). p.most) is_blank in
      ends_as end a b same (subst (λ (n : ℕ). end (answers n b.text.items)) (sym good) (ends (answers 0 b.text.items)
      (says_whole text b.text.items (is ∙ ap (λ (p : PageState). p.bytes) filled ∙ ap (λ (p : PageState). p.bytes ++ text) is_blank)
      (subst (λ (n : ℕ). length b.text.items ≤ n) most within))))

  -- it doesn't fit, or there is no memory for it
  pub page_stopped : (fault : PageFault) → Stops page text fault → (r : Result Answered Refused) → IsErrAnd r (λ e. e ≡ of_page fault) → Concludes end r
  page_stopped fault stops r failed =
      let p = err_from_is_err_and r failed in
      rw (p.1, p.2) (why_overfilled end text fault (λ long. ends (beyond Answer) (says_beyond text long))
      (subst (λ (p : PageState). Stops p text fault) is_blank stops))
