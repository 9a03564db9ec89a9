-- Words and files have one outcome, and where nothing failed it is the answer.
use Rattle.surf_answers.proofs.Common.{◌≡◌, ◌⊎◌, ◌≤◌, inl, inr, ℕ, List, [], refl, sym, ◌∙◌, ap, subst, arith, ◌∷◌, cases_eq, cases_lt, AllByRecursion, Outcome, answers, refuses, misses, Shows, status_of}
use Rattle.surf_answers.proofs.Commands.{Files, named, request_of}
use Rattle.surf_run.proofs.Common.{IsDecided, Answer}
use Rattle.surf_run.specs.OneAnswer.{OutcomesAreOne, AnswersAreOne}
use Rattle.surf_run.proofs.ShapeWords.{words_are_well_shaped}
use Rattle.surf_run.specs.Leads.{Leads}
use Rattle.surf_run.proofs.StepLaws.{HasOneOutcome, Same}
use Rattle.surf_run.proofs.Rows.{rows_are_settled}

-- files agree with themselves
all_same : (files : Files) (names : List (List ℕ)) → AllByRecursion (Same files files) names
all_same files [] = tt
all_same files (name ∷ names) = (refl, all_same files names)

module _ (words : List (List ℕ)) (files : Files) where
  pub one_lead : HasOneOutcome (Leads words files)
  unfolding Leads
  one_lead = (rows_are_settled files files (request_of words) (all_same files (named (request_of words))) (words_are_well_shaped words)).one

  shown : (o : Outcome) (status : ℕ) (text line : List ℕ) → Shows o status text line → status ≡ status_of o
  shown (answers s t) status text line shows = shows.0
  shown (refuses s l) status text line shows = shows.0
  shown misses status text line shows = absurd shows

  -- an outcome shows one status, text and line
  shows_one : (o : Outcome) (s t : ℕ) (text line other_text other_line : List ℕ) → Shows o s text line → Shows o t other_text other_line →
      (s ≡ t) × (text ≡ other_text) × (line ≡ other_line)
  shows_one (answers d x) s t text line other_text other_line a b = (a.0 ∙ sym b.0, a.1 ∙ sym b.1, a.2 ∙ sym b.2)
  shows_one (refuses d x) s t text line other_text other_line a b = (a.0 ∙ sym b.0, a.1 ∙ sym b.1, a.2 ∙ sym b.2)
  shows_one misses s t text line other_text other_line a b = absurd a

  pub one_answer : (s t : ℕ) (text line other_text other_line : List ℕ) → Answer words files s text line → Answer words files t other_text other_line →
      (s ≡ t) × (text ≡ other_text) × (line ≡ other_line)
  one_answer s t text line other_text other_line a b =
      shows_one b.0 s t text line other_text other_line (subst (λ (o : Outcome). Shows o s text line) (one_lead a.0 b.0 a.1 b.1) a.2) b.2

  one_status : (s t : ℕ) (text line other_text other_line : List ℕ) → Answer words files s text line → Answer words files t other_text other_line → s ≡ t
  one_status s t text line other_text other_line a b = (one_answer s t text line other_text other_line a b).0

  -- where nothing failed, what is due is the status, unless memory ran out
  pub completes : (result due : ℕ) (text line : List ℕ) → Answer words files due text line →
      (result ≤ 1 → (said : List ℕ) × Answer words files result said []) →
      (IsDecided result → (said : List ℕ) × Answer words files result [] said) →
      (result ≡ 9 → Leads words files misses) → (result ≡ 10 → ⊥) → (result ≡ due) ⊎ (result ≡ 11)
  completes result due text line is answered refused unread write = elim (cases_lt 1 result) [
    | inr low ↦ let a = answered low in inl (one_status result due a.0 [] text line a.1 is)
    | inl high ↦ elim (cases_lt result 9) [
      | inl lt ↦ let a = refused (high, inl lt) in inl (one_status result due [] a.0 text line a.1 is)
      | inr ge ↦ elim (cases_lt 11 result) [
        | inl gt ↦ let a = refused (high, inr gt) in inl (one_status result due [] a.0 text line a.1 is)
        | inr few ↦ elim (cases_eq result 9) [
          | inl nine ↦ inl (nine ∙ ap status_of (one_lead misses is.0 (unread nine) is.1) ∙ sym (shown is.0 due text line is.2))
          | inr ne ↦ inr (omega (arith, write, ne, few, ge))
        ]
      ]
    ]
  ]

-- ---- the law

pub outcomes_are_one : OutcomesAreOne
outcomes_are_one words files o p x y = one_lead words files o p x y

pub answers_are_one : AnswersAreOne
answers_are_one words files s t text line other_text other_line a b = one_answer words files s t text line other_text other_line a b
