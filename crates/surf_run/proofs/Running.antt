-- What a run leaves, by what its command answered.
use Rattle.surf_answers.proofs.Common.{◌≡◌, ◌⊎◌, ◌<◌, ◌≤◌, inl, inr, ℕ, List, Option, Some, None, refl, sym, ◌∙◌, subst, arith, IfSome, codes, Outcome, answers, refuses, misses, Cause, due, unread, starved, misused, line_of, IsTold, Why, WhyOver, verdict_status}
use Rattle.surf_answers.proofs.Commands.{Files, HasRisen, GrowsBy, GrowsByShorter, OnRequest, Request, request_of}
use Rattle.surf_run.proofs.Common.{AreTheFiles, NamesFile, PutsLine, IsDecided, IsLineOf, Refuses, WritesAnswer}
use Rattle.surf_run.proofs.Common.{WritesFront}
use Rattle.surf_run.specs.Leads.{Leads}
use Rattle.surf_run.proofs.OneLine.{IsSaid, misused_is_one, read_fault_is_one, write_fault_is_one, memory_is_one}
use Rattle.surf_answers.specs.declared.answered.Verdict.{Verdict}
use Rattle.surf_answers.specs.declared.answered.Verdict.TheVariants.{Yes, No}

-- what is due has a status from 2 to 8 or from 12 on, and a line
abbrev pub IsDue : Cause → Type 0
IsDue (due (answers status text)) = ⊥
IsDue (due (refuses status line)) = IsDecided status
IsDue (due misses) = ⊥
IsDue unread = Unit {0}
IsDue starved = Unit {0}

-- the words and the files decide no status from 9 to 11
pub undecided : (status other : ℕ) → status ≡ other → 8 < other → other < 12 → IsDecided status → ⊥
undecided status other is low high (above, inl lt) = absurd (omega (arith, is, low, lt))
undecided status other is low high (above, inr gt) = absurd (omega (arith, is, high, gt))

-- a verdict's status is 0 or 1
pub verdicts_are_low : (v : Verdict) → verdict_status v ≤ 1
verdicts_are_low Yes = omega arith
verdicts_are_low No = omega arith

-- a refusal has a status above 1, and not that of a failed write
pub refuses_high : (c : Cause) (status : ℕ) (old new : Option (List ℕ)) (before after : ℕ) → IsDue c →
    Refuses c status old new before after → (1 < status) × (status ≡ 10 → ⊥)
refuses_high (due (refuses s l)) status old new before after is_due (inl said) =
    (subst (λ (n : ℕ). 1 < n) (sym said.0) is_due.0, λ ten. undecided s 10 (sym said.0 ∙ ten) (omega arith) (omega arith) is_due)
refuses_high (due (answers s t)) status old new before after is_due (inl said) = absurd is_due
refuses_high (due misses) status old new before after is_due (inl said) = absurd is_due
refuses_high unread status old new before after is_due (inl said) = (omega (arith, said.0), λ ten. omega (arith, ten, said.0))
refuses_high starved status old new before after is_due (inl said) = (omega (arith, said.0), λ ten. omega (arith, ten, said.0))
refuses_high c status old new before after is_due (inr said) = (omega (arith, said.0), λ ten. omega (arith, ten, said.0))

module _ (words : List (List ℕ)) where
  pub leads : (r : Option Request) (files : Files) (o : Outcome) → request_of words ≡ r → OnRequest r files o → Leads words files o
  unfolding Leads
  leads r files o is on = subst (λ (q : Option Request). OnRequest q files o) (sym is) on

  -- the words are in no row
  pub no_row : (holds : Option Files) → request_of words ≡ None → IsLineOf words holds 2 (line_of (due misused))
  no_row holds none = record {
    related = λ _ files _. (misused, leads None files misused none refl, (refl, refl, refl));
    read = λ wrong. absurd (omega (arith, wrong));
    write = λ wrong. absurd (omega (arith, wrong));
    memory = λ wrong. absurd (omega (arith, wrong));
    one = misused_is_one;
  }

  -- the output failed
  pub write_fault_said : (holds : Option Files) → IsLineOf words holds 10 (codes "write fault\n")
  write_fault_said holds = record {
    related = λ decided. absurd (undecided 10 10 refl (omega arith) (omega arith) decided);
    read = λ wrong. absurd (omega (arith, wrong));
    write = λ _. refl;
    memory = λ wrong. absurd (omega (arith, wrong));
    one = write_fault_is_one;
  }

  -- a file is missing, where the shelf has no fault
  pub missing_file : (holds : Option Files) (files : Files) → AreTheFiles (request_of words) holds files → NamesFile (request_of words) →
      (old new : ℕ) → (HasRisen old new → ⊥) → HasRisen old new ⊎ IsTold holds (λ f. Leads words f misses) → Leads words files misses
  missing_file holds files are names old new none (inl rose) = absurd (none rose)
  missing_file holds files (inl held) names old new none (inr told) = subst (λ (h : Option Files). IsTold h (λ f. Leads words f misses)) held told
  missing_file holds files (inr nameless) names old new none (inr told) = absurd (nameless names)

  module _ (r : Request) (is : request_of words ≡ Some r) (holds : Option Files) where
    -- what is so of what is held, and of any files where the request names none, is so of the files
    over : (P : Files → Type 0) → IfSome holds P → NamesFile (Some r) ⊎ ((files : Files) → P files) → (files : Files) →
        AreTheFiles (request_of words) holds files → P files
    over P told alone files (inl held) = subst (λ (h : Option Files). IfSome h P) held told
    over P told (inl names) files (inr none) = absurd (none (subst NamesFile (sym is) names))
    over P told (inr any) files (inr none) = any files

    -- the answer was written
    pub written : (v : Verdict) (text : List ℕ) (old new : Option (List ℕ)) →
        IfSome holds (λ files. OnRequest (Some r) files (answers (verdict_status v) text)) →
        NamesFile (Some r) ⊎ ((files : Files) → OnRequest (Some r) files (answers (verdict_status v) text)) → GrowsBy old new text →
        (files : Files) → AreTheFiles (request_of words) holds files → WritesAnswer words (verdict_status v) old new files
    written v text old new told alone grows files are =
        let o = answers (verdict_status v) text in
        (text, (o, leads (Some r) files o is (over (λ f. OnRequest (Some r) f o) told alone files are), (refl, refl, refl)), grows)

    -- a front of it was written
    pub cut_off : (v : Verdict) (text : List ℕ) (old new : Option (List ℕ)) →
        IfSome holds (λ files. OnRequest (Some r) files (answers (verdict_status v) text)) →
        NamesFile (Some r) ⊎ ((files : Files) → OnRequest (Some r) files (answers (verdict_status v) text)) → GrowsByShorter old new text →
        (files : Files) → AreTheFiles (request_of words) holds files → WritesFront words old new files
    cut_off v text old new told alone grows files are =
        let o = answers (verdict_status v) text in (
          verdict_status v,
          (
            text,
            verdicts_are_low v,
            (o, leads (Some r) files o is (over (λ f. OnRequest (Some r) f o) told alone files are), (refl, refl, refl)),
            grows,
          ),
        )

    -- it was said why there is no answer
    pub told_why : (c : Cause) (status faults faults_new : ℕ) (old new : Option (List ℕ)) (before after : ℕ) → IsDue c → IsSaid c →
        WhyOver holds faults faults_new (OnRequest (Some r)) c →
        NamesFile (Some r) ⊎ ((files : Files) → Why (OnRequest (Some r) files) c) → Refuses c status old new before after →
        (line : List ℕ) × IsLineOf words holds status line × PutsLine old new before after line
    told_why (due (refuses s l)) status faults faults_new old new before after is_due is_said why alone (inl said) = (
      l,
      record {
        related = λ _ files are. (
          refuses s l,
          leads (Some r) files (refuses s l) is (over (λ f. OnRequest (Some r) f (refuses s l)) why alone files are),
          (said.0, refl, refl),
        );
        read = λ wrong. absurd (undecided s 9 (sym said.0 ∙ wrong) (omega arith) (omega arith) is_due);
        write = λ wrong. absurd (undecided s 10 (sym said.0 ∙ wrong) (omega arith) (omega arith) is_due);
        memory = λ wrong. absurd (undecided s 11 (sym said.0 ∙ wrong) (omega arith) (omega arith) is_due);
        one = is_said;
      },
      said.1,
    )
    told_why (due (answers s t)) status faults faults_new old new before after is_due is_said why alone (inl said) = absurd is_due
    told_why (due misses) status faults faults_new old new before after is_due is_said why alone (inl said) = absurd is_due
    told_why unread status faults faults_new old new before after is_due is_said why alone (inl said) = (
      codes "read fault\n",
      record {
        related = λ decided. absurd (undecided status 9 said.0 (omega arith) (omega arith) decided);
        read = λ _. refl;
        write = λ wrong. absurd (omega (arith, wrong, said.0));
        memory = λ wrong. absurd (omega (arith, wrong, said.0));
        one = read_fault_is_one;
      },
      said.1,
    )
    told_why starved status faults faults_new old new before after is_due is_said why alone (inl said) = (
      codes "memory\n",
      record {
        related = λ decided. absurd (undecided status 11 said.0 (omega arith) (omega arith) decided);
        read = λ wrong. absurd (omega (arith, wrong, said.0));
        write = λ wrong. absurd (omega (arith, wrong, said.0));
        memory = λ _. refl;
        one = memory_is_one;
      },
      said.1,
    )
    told_why c status faults faults_new old new before after is_due is_said why alone (inr said) = (
      codes "memory\n",
      record {
        related = λ decided. absurd (undecided status 11 said.0 (omega arith) (omega arith) decided);
        read = λ wrong. absurd (omega (arith, wrong, said.0));
        write = λ wrong. absurd (omega (arith, wrong, said.0));
        memory = λ _. refl;
        one = memory_is_one;
      },
      said.1,
    )

    -- the status 9 is that of a read that failed
    pub told_unread : (c : Cause) (status faults faults_new : ℕ) (old new : Option (List ℕ)) (before after : ℕ) → IsDue c →
        WhyOver holds faults faults_new (OnRequest (Some r)) c → Refuses c status old new before after → status ≡ 9 →
        HasRisen faults faults_new ⊎ IsTold holds (λ files. Leads words files misses)
    told_unread (due (refuses s l)) status faults faults_new old new before after is_due why (inl said) nine =
        absurd (undecided s 9 (sym said.0 ∙ nine) (omega arith) (omega arith) is_due)
    told_unread (due (answers s t)) status faults faults_new old new before after is_due why (inl said) nine = absurd is_due
    told_unread (due misses) status faults faults_new old new before after is_due why (inl said) nine = absurd is_due
    told_unread unread status faults faults_new old new before after is_due (inl rose) (inl said) nine = inl rose
    told_unread unread status faults faults_new old new before after is_due (inr missing) (inl said) nine = inr (at holds missing)
      where
        at : (holds : Option Files) → IsTold holds (λ files. OnRequest (Some r) files misses) → IsTold holds (λ files. Leads words files misses)
        at None wrong = wrong
        at (Some files) on = leads (Some r) files misses is on
    told_unread starved status faults faults_new old new before after is_due why (inl said) nine = absurd (omega (arith, nine, said.0))
    told_unread c status faults faults_new old new before after is_due why (inr said) nine = absurd (omega (arith, nine, said.0))

    -- and words that have it name a file
    pub told_named : (c : Cause) (status : ℕ) (old new : Option (List ℕ)) (before after : ℕ) (files : Files) → IsDue c →
        NamesFile (Some r) ⊎ (Why (OnRequest (Some r) files) c) → Refuses c status old new before after → status ≡ 9 →
        NamesFile (request_of words)
    told_named c status old new before after files is_due (inl names) refused nine = subst NamesFile (sym is) names
    told_named (due (refuses s l)) status old new before after files is_due (inr why) (inl said) nine =
        absurd (undecided s 9 (sym said.0 ∙ nine) (omega arith) (omega arith) is_due)
    told_named (due (answers s t)) status old new before after files is_due (inr why) (inl said) nine = absurd is_due
    told_named (due misses) status old new before after files is_due (inr why) (inl said) nine = absurd is_due
    told_named unread status old new before after files is_due (inr why) (inl said) nine = absurd why
    told_named starved status old new before after files is_due (inr why) (inl said) nine = absurd (omega (arith, nine, said.0))
    told_named c status old new before after files is_due (inr why) (inr said) nine = absurd (omega (arith, nine, said.0))
