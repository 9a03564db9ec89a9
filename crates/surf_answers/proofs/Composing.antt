-- Steps that functions take, one after another.
use Rattle.surf_answers.proofs.Common.{◌≡◌, ◌≤◌, ◌∙◌, ℕ, [], Option, Some, None, Result, Ok, Err, inl, inr, refl, sym, ap, subst, arith, err_from_is_err_and, IfSome, IsErrAnd, Cause, due, unread, starved, Outcome, answers, misses, cause_of, Refused, IsTold, Why, Concludes, WhyOver, ConcludesOver, TakesOver, verdict_status}
use Rattle.surf_answers.specs.declared.answered.Answered.{Answered}
use Rattle.surf_base.specs.Outside.{Files}
use Rattle.surf_texts.specs.declared.refusal.Refused.TheVariants.{Read}
use Rattle.surf_answers.specs.Steps.{Ends, stops, goes}

-- ---- functions that read no file

-- a refusal that is handed on
pub handed : {T : Type 0} (end : Result T Refused → Type 0) (e : Refused) (r : Result T Refused) → IsErrAnd r (λ x. x ≡ e) → end (Err e) → end r
handed end e r is so = let (x, failed, was) = err_from_is_err_and r is in subst end (sym (failed ∙ ap Err was)) so

-- A function that reads no file has come so far: where the rest of it comes to an end, so does the whole.
pub record Alone (whole rest : Outcome → Type 0) : Type 0 where
  pub so : (r : Result Answered Refused) → Concludes rest r → Concludes whole r

pub alone : {whole : Outcome → Type 0} → Alone whole whole
alone = record { so = λ r is. is }

module _ {A : Type 0} {whole : Outcome → Type 0} {first : Result A Outcome → Type 0} {second : A → Outcome → Type 0} (far : Alone whole (Ends first second)) where
  -- a step went on
  module _ (a : A) (went : first (Ok a)) where
    why_went : (c : Cause) → Why (second a) c → Why (Ends first second) c
    why_went (due o) end = goes a went end
    why_went unread end = end
    why_went starved end = tt

    next : (r : Result Answered Refused) → Concludes (second a) r → Concludes (Ends first second) r
    next (Ok x) end = goes a went end
    next (Err e) end = why_went (cause_of e) end

    pub past_alone : Alone whole (second a)
    past_alone = record { so = λ r end. far.so r (next r end) }

  -- it stopped
  pub stopped_alone : (e : Refused) → Why (λ o. first (Err o)) (cause_of e) → (r : Result Answered Refused) → IsErrAnd r (λ x. x ≡ e) → Concludes whole r
  stopped_alone e stopped r is = far.so r (handed (Concludes (Ends first second)) e r is (why (cause_of e) stopped))
    where
      why : (c : Cause) → Why (λ o. first (Err o)) c → Why (Ends first second) c
      why (due o) ended = stops ended
      why unread ended = ended
      why starved ended = tt

-- an end that follows from another
module _ (end other : Outcome → Type 0) (follows : (o : Outcome) → end o → other o) where
  why_follows : (c : Cause) → Why end c → Why other c
  why_follows (due o) is = follows o is
  why_follows unread is = is
  why_follows starved is = tt

  pub concludes_so : (r : Result Answered Refused) → Concludes end r → Concludes other r
  concludes_so (Ok x) is = follows (answers (verdict_status x.verdict) x.text.items) is
  concludes_so (Err e) is = why_follows (cause_of e) is

-- ---- functions over files

-- A function has come so far: where the rest of it comes to an end, so does the whole.
pub record SoFar (holds : Option Files) (old now : ℕ) (whole rest : Files → Outcome → Type 0) : Type 0 where
  pub so : (new : ℕ) (r : Result Answered Refused) → ConcludesOver holds now new rest r → ConcludesOver holds old new whole r

pub begun : {holds : Option Files} {old : ℕ} {whole : Files → Outcome → Type 0} → SoFar holds old old whole whole
begun = record { so = λ new r is. is }

-- a step over files comes
module _ {A : Type 0} {holds : Option Files} {old now : ℕ} {whole : Files → Outcome → Type 0} {first : Files → Result A Outcome → Type 0} {second : A → Files → Outcome → Type 0}
    (far : SoFar holds old now whole (λ files. Ends (first files) (λ a. second a files))) where
  -- it went on, on a shelf that holds the same
  module _ {held : Option Files} {mid : ℕ} (a : A) (same : held ≡ holds) (went : IfSome held (λ files. first files (Ok a))) (later : now ≤ mid) where
    went_on : IfSome holds (λ files. first files (Ok a))
    went_on = subst (λ (h : Option Files). IfSome h (λ files. first files (Ok a))) same went

    rest : (o : Outcome) → IfSome holds (λ files. second a files o) → IfSome holds (λ files. Ends (first files) (λ a. second a files) o)
    rest o end = at holds went_on end
      where
        at : (h : Option Files) → IfSome h (λ files. first files (Ok a)) → IfSome h (λ files. second a files o) → IfSome h (λ files. Ends (first files) (λ a. second a files) o)
        at None given end = tt
        at (Some files) given end = goes a given end

    why_rest : (new : ℕ) (c : Cause) → WhyOver holds mid new (second a) c → WhyOver holds now new (λ files. Ends (first files) (λ a. second a files)) c
    why_rest new (due o) end = rest o end
    why_rest new unread (inl rose) = inl (λ l. let r = rose l in omega (arith, later, r))
    why_rest new unread (inr missing) = inr (at holds went_on missing)
      where
        at : (h : Option Files) → IfSome h (λ files. first files (Ok a)) → IsTold h (λ files. second a files misses) → IsTold h (λ files. Ends (first files) (λ a. second a files) misses)
        at None given end = end
        at (Some files) given end = goes a given end
    why_rest new starved end = tt

    after : (new : ℕ) (r : Result Answered Refused) → ConcludesOver holds mid new (second a) r → ConcludesOver holds now new (λ files. Ends (first files) (λ a. second a files)) r
    after new (Ok x) end = rest (answers (verdict_status x.verdict) x.text.items) end
    after new (Err e) end = why_rest new (cause_of e) end

    pub over : SoFar holds old mid whole (second a)
    over = record { so = λ new r is. far.so new r (after new r is) }

    -- what it gave is taken on by another name
    pub over_as : (b : A) → b ≡ a → SoFar holds old mid whole (second b)
    over_as b is = subst (λ (x : A). SoFar holds old mid whole (second x)) (sym is) over

  -- it stopped
  module _ {held : Option Files} (new : ℕ) (e : Refused) (same : held ≡ holds) (why : WhyOver held now new (λ files o. first files (Err o)) (cause_of e)) where
    why_stopped : (c : Cause) → WhyOver held now new (λ files o. first files (Err o)) c → WhyOver holds now new (λ files. Ends (first files) (λ a. second a files)) c
    why_stopped (due o) ended = at holds (subst (λ (h : Option Files). IfSome h (λ files. first files (Err o))) same ended)
      where
        at : (h : Option Files) → IfSome h (λ files. first files (Err o)) → IfSome h (λ files. Ends (first files) (λ a. second a files) o)
        at None given = tt
        at (Some files) given = stops given
    why_stopped unread (inl rose) = inl rose
    why_stopped unread (inr missing) = inr (at holds (subst (λ (h : Option Files). IsTold h (λ files. first files (Err misses))) same missing))
      where
        at : (h : Option Files) → IsTold h (λ files. first files (Err misses)) → IsTold h (λ files. Ends (first files) (λ a. second a files) misses)
        at None given = given
        at (Some files) given = stops given
    why_stopped starved ended = tt

    pub stopped_over : (r : Result Answered Refused) → IsErrAnd r (λ x. x ≡ e) → ConcludesOver holds old new whole r
    stopped_over r is =
        far.so new r (handed (ConcludesOver holds now new (λ files. Ends (first files) (λ a. second a files))) e r is (why_stopped (cause_of e) why))

-- a step that reads no file comes
module _ {A : Type 0} {holds : Option Files} {old now : ℕ} {whole : Files → Outcome → Type 0} {first : Result A Outcome → Type 0} {second : A → Files → Outcome → Type 0}
    (far : SoFar holds old now whole (λ files. Ends first (λ a. second a files))) where
  -- it went on
  pub past : (a : A) → first (Ok a) → SoFar holds old now whole (second a)
  past a went = over far a refl (at holds) (omega arith)
    where
      at : (h : Option Files) → IfSome h (λ files. first (Ok a))
      at None = tt
      at (Some files) = went

  -- it stopped
  pub stopped : (e : Refused) → Why (λ o. first (Err o)) (cause_of e) → (r : Result Answered Refused) → IsErrAnd r (λ x. x ≡ e) → ConcludesOver holds old now whole r
  stopped e why r is = stopped_over far now e refl (at (cause_of e) why) r is
    where
      any : (o : Outcome) → first (Err o) → (h : Option Files) → IfSome h (λ files. first (Err o))
      any o ended None = tt
      any o ended (Some files) = ended

      at : (c : Cause) → Why (λ o. first (Err o)) c → WhyOver holds now now (λ files o. first (Err o)) c
      at (due o) ended = any o ended holds
      at unread ended = absurd ended
      at starved ended = tt

-- the last call, which reads no file, comes to an end
module _ {holds : Option Files} {old now : ℕ} {whole : Files → Outcome → Type 0} {last : Outcome → Type 0} (far : SoFar holds old now whole (λ files. last)) where
  any : (o : Outcome) → last o → (h : Option Files) → IfSome h (λ files. last o)
  any o end None = tt
  any o end (Some files) = end

  why_last : (c : Cause) → Why last c → WhyOver holds now now (λ files. last) c
  why_last (due o) end = any o end holds
  why_last unread end = absurd end
  why_last starved end = tt

  last_over : (r : Result Answered Refused) → Concludes last r → ConcludesOver holds now now (λ files. last) r
  last_over (Ok x) end = any (answers (verdict_status x.verdict) x.text.items) end holds
  last_over (Err e) end = why_last (cause_of e) end

  pub ended : (r : Result Answered Refused) → Concludes last r → ConcludesOver holds old now whole r
  ended r end = far.so now r (last_over r end)

-- what follows of any files follows of those that are held
pub some_so : {P Q : Files → Type 0} (holds : Option Files) → ((files : Files) → P files → Q files) → IfSome holds P → IfSome holds Q
some_so None follows is = tt
some_so (Some files) follows is = follows files is

told_so : {P Q : Files → Type 0} (holds : Option Files) → ((files : Files) → P files → Q files) → IsTold holds P → IsTold holds Q
told_so None follows is = is
told_so (Some files) follows is = follows files is

pub why_over_so : (old new : ℕ) {P Q : Files → Outcome → Type 0} (holds : Option Files) → ((files : Files) (o : Outcome) → P files o → Q files o) → (c : Cause) →
    WhyOver holds old new P c → WhyOver holds old new Q c
why_over_so old new holds follows (due o) is = some_so holds (λ files. follows files o) is
why_over_so old new holds follows unread (inl rose) = inl rose
why_over_so old new holds follows unread (inr missing) = inr (told_so holds (λ files. follows files misses) missing)
why_over_so old new holds follows starved is = tt

-- what is so of the files that are held, each time that they were read
pub at_once : {held there holds : Option Files} (P Q : Files → Type 0) → held ≡ holds → IfSome held P → there ≡ holds → IfSome there Q →
    IfSome holds (λ files. P files × Q files)
at_once {held} {there} {holds} P Q same p alike q = at holds (subst (λ (h : Option Files). IfSome h P) same p) (subst (λ (h : Option Files). IfSome h Q) alike q)
  where
    at : (h : Option Files) → IfSome h P → IfSome h Q → IfSome h (λ files. P files × Q files)
    at None p q = tt
    at (Some files) p q = (p, q)

-- a step that a function takes by steps stops where one of them does
pub refused : {B : Type 0} (holds : Option Files) (old new : ℕ) (step : Files → Result B Outcome → Type 0) (e : Refused) (r : Result B Refused) →
    IsErrAnd r (λ x. x ≡ e) → ConcludesOver holds old new (λ files o. step files (Err o)) (Err e) → TakesOver holds old new (λ (x : B). x) step r
refused {B} holds old new step e r is why = handed (TakesOver holds old new (λ (x : B). x) step) e r is why

-- .. and so does a last step, on a shelf that holds the same
pub last_stopped : {held holds : Option Files} {old now : ℕ} {whole rest : Files → Outcome → Type 0} → SoFar holds old now whole rest →
    (new : ℕ) (e : Refused) → held ≡ holds → WhyOver held now new rest (cause_of e) → ConcludesOver holds old new whole (Err e)
last_stopped {held} {holds} {old} {now} {whole} {rest} far new e same why =
    far.so new (Err e) (subst (λ (h : Option Files). WhyOver h now new rest (cause_of e)) same why)

-- an end that follows from another
module _ {holds : Option Files} {old now : ℕ} {whole rest other : Files → Outcome → Type 0} (far : SoFar holds old now whole rest)
    (follows : (files : Files) (o : Outcome) → other files o → rest files o) where
  over_follows : (new : ℕ) (r : Result Answered Refused) → ConcludesOver holds now new other r → ConcludesOver holds now new rest r
  over_follows new (Ok x) is = some_so holds (λ files. follows files (answers (verdict_status x.verdict) x.text.items)) is
  over_follows new (Err e) is = why_over_so now new holds follows (cause_of e) is

  pub follows_so : SoFar holds old now whole other
  follows_so = record { so = λ new r is. far.so new r (over_follows new r is) }

-- what comes of any files comes of those that are held
pub ends_over_any : (holds : Option Files) (old new : ℕ) (whole : Files → Outcome → Type 0) (r : Result Answered Refused) →
    ((files : Files) → Concludes (whole files) r) → ConcludesOver holds old new whole r
ends_over_any holds old new whole (Ok x) all = at holds
  where
    at : (h : Option Files) → IfSome h (λ files. whole files (answers (verdict_status x.verdict) x.text.items))
    at None = tt
    at (Some files) = all files
ends_over_any holds old new whole (Err e) all = why (cause_of e) all
  where
    at : (o : Outcome) → ((files : Files) → whole files o) → (h : Option Files) → IfSome h (λ files. whole files o)
    at o any None = tt
    at o any (Some files) = any files

    why : (c : Cause) → ((files : Files) → Why (whole files) c) → WhyOver holds old new whole c
    why (due o) any = at o any holds
    why unread any = absurd (any [])
    why starved any = tt

-- and no read of a file failed
pub reads_nothing : (end : Outcome → Type 0) (r : Result Answered Refused) → Concludes end r → r ≡ Err Read → ⊥
reads_nothing end r is unread_is = subst (Concludes end) unread_is is

-- ---- a function that hands on what it read

-- a later part of a function comes to an end, on a shelf that holds the same
module _ {held holds : Option Files} {old mid : ℕ} (new : ℕ) (whole : Files → Outcome → Type 0) (same : held ≡ holds) (later : old ≤ mid) where
  why_resumed : (c : Cause) → WhyOver holds mid new whole c → WhyOver holds old new whole c
  why_resumed (due o) given = given
  why_resumed unread (inl rose) = inl (λ l. let r = rose l in omega (arith, later, r))
  why_resumed unread (inr missing) = inr missing
  why_resumed starved given = tt

  earlier : (r : Result Answered Refused) → ConcludesOver holds mid new whole r → ConcludesOver holds old new whole r
  earlier (Ok x) given = given
  earlier (Err e) given = why_resumed (cause_of e) given

  pub resumed : (r : Result Answered Refused) → ConcludesOver held mid new whole r → ConcludesOver holds old new whole r
  resumed r is = earlier r (subst (λ (h : Option Files). ConcludesOver h mid new whole r) same is)
