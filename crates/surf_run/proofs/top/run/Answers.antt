use Rattle.surf_answers.proofs.Common.{◌⊎◌, inl, inr, ◌<◌, ◌≤◌, ℕ, List, refl, subst, sym, arith, cause_of}
use Rattle.surf_answers.proofs.Commands.{Files, GrowsBy, GrowsByShorter, request, request_of, texts}
use Rattle.surf_run.proofs.Common.{AreTheFiles, WritesAnswer}
use Rattle.surf_run.proofs.Refusals.{refusals_are_proper}
use Rattle.surf_run.proofs.Running.{no_row, written, cut_off, write_fault_said, told_why, told_unread, undecided, verdicts_are_low, missing_file, refuses_high, told_named}
use Rattle.surf_run.proofs.Unique.{completes}
use Rattle.surf_run.proofs.top.run.Goals as goal

pub returns-in_default-clause-line : goal.returns-in_default-clause-line
returns-in_default-clause-line g c = λ _. (_, no_row (texts c.args.words.now) (g.S.Shelf.holds c.args.shelf.now) c.in_default.ensures, c.say.ensures)

pub returns-in_default-clause-complete : goal.returns-in_default-clause-complete
returns-in_default-clause-complete g c = λ files are status text line due _ _.
    let words = texts c.args.words.now in
    completes words files 2 status text line due
    (λ low. absurd (omega (arith, low)))
    (λ decided. (_, (no_row words (g.S.Shelf.holds c.args.shelf.now) c.in_default.ensures).related decided files are))
    (λ nine. absurd (omega (arith, nine)))
    (λ ten. omega (arith, ten))

pub returns-in-Ok-put_all-clause-answered : goal.returns-in-Ok-put_all-clause-answered
returns-in-Ok-put_all-clause-answered g c = λ _ files are.
    let words = texts c.args.words.now in
    let old = g.O.Sink.written c.args.out.now in
    let new = g.O.Sink.written c.put_all.new.sink in
    subst (λ (s : ℕ). WritesAnswer words s old new files) (sym c.status.ensures)
    (written words (request c.in-Some.command) c.in-Some.ensures (g.S.Shelf.holds c.args.shelf.now) c.in-Ok.answered.verdict c.in-Ok.answered.text.items old new
    c.in-Ok.ensures.tells c.in-Ok.ensures.alone
    (subst (λ (t : List ℕ). GrowsBy old new t) c.deref.ensures.value c.in-Ok-put_all.ensures.ok) files are)

pub returns-in-Ok-put_all-clause-complete : goal.returns-in-Ok-put_all-clause-complete
returns-in-Ok-put_all-clause-complete g c = λ files are status text line due _ _.
    let words = texts c.args.words.now in
    let old = g.O.Sink.written c.args.out.now in
    let new = g.O.Sink.written c.put_all.new.sink in
    let low : c.status.result ≤ 1 = subst (λ (s : ℕ). s ≤ 1) (sym c.status.ensures) (verdicts_are_low c.in-Ok.answered.verdict) in
    let answer = subst (λ (s : ℕ). WritesAnswer words s old new files) (sym c.status.ensures)
    (written words (request c.in-Some.command) c.in-Some.ensures (g.S.Shelf.holds c.args.shelf.now) c.in-Ok.answered.verdict c.in-Ok.answered.text.items old new
    c.in-Ok.ensures.tells c.in-Ok.ensures.alone
    (subst (λ (t : List ℕ). GrowsBy old new t) c.deref.ensures.value c.in-Ok-put_all.ensures.ok) files are) in
    completes words files c.status.result status text line due
    (λ _. (answer.0, answer.1))
    (λ decided. let high : 1 < c.status.result = decided.0 in absurd (omega (arith, high, low)))
    (λ nine. absurd (omega (arith, nine, low)))
    (λ ten. omega (arith, ten, low))

pub returns-in-Ok-clause-write : goal.returns-in-Ok-clause-write
returns-in-Ok-clause-write g c = λ _.
    let words = texts c.args.words.now in
    let old = g.O.Sink.written c.args.out.now in
    let new = g.O.Sink.written c.put_all.new.sink in (
      c.in-Err-put_all.ensures.failed,
      cut_off words (request c.in-Some.command) c.in-Some.ensures (g.S.Shelf.holds c.args.shelf.now) c.in-Ok.answered.verdict c.in-Ok.answered.text.items old new
          c.in-Ok.ensures.tells c.in-Ok.ensures.alone
          (subst (λ (t : List ℕ). GrowsByShorter old new t) c.deref.ensures.value c.in-Err-put_all.ensures.part),
    )

pub returns-in-Ok-clause-line : goal.returns-in-Ok-clause-line
returns-in-Ok-clause-line g c = λ _.
    (_, write_fault_said (texts c.args.words.now) (g.S.Shelf.holds c.args.shelf.now), c.say-in-Err-put_all.ensures)

pub returns-in-Ok-clause-complete : goal.returns-in-Ok-clause-complete
returns-in-Ok-clause-complete g c = λ files are status text line due _ no_write_fault.
    completes (texts c.args.words.now) files 10 status text line due
    (λ low. absurd (omega (arith, low)))
    (λ decided. absurd (undecided 10 10 refl (omega arith) (omega arith) decided))
    (λ nine. absurd (omega (arith, nine)))
    (λ ten. no_write_fault c.in-Err-put_all.ensures.failed)

pub returns-clause-line : goal.returns-clause-line
returns-clause-line g c = λ _.
    told_why (texts c.args.words.now) (request c.in-Some.command) c.in-Some.ensures (g.S.Shelf.holds c.args.shelf.now) (cause_of c.in-Err.refused) c.refuse.result
    (g.S.Shelf.faults c.args.shelf.now) (g.S.Shelf.faults c.answer.new.shelf) _ _ _ _ (refusals_are_proper c.in-Err.refused).0 (refusals_are_proper c.in-Err.refused).1
    c.in-Err.ensures.tells c.in-Err.ensures.alone c.refuse.ensures

pub returns-clause-read : goal.returns-clause-read
returns-clause-read g c =
    told_unread (texts c.args.words.now) (request c.in-Some.command) c.in-Some.ensures (g.S.Shelf.holds c.args.shelf.now) (cause_of c.in-Err.refused) c.refuse.result
    (g.S.Shelf.faults c.args.shelf.now) (g.S.Shelf.faults c.answer.new.shelf) _ _ _ _ (refusals_are_proper c.in-Err.refused).0 c.in-Err.ensures.tells c.refuse.ensures

pub returns-clause-complete : goal.returns-clause-complete
returns-clause-complete g c = λ files are status text line due no_fault _.
    let words = texts c.args.words.now in
    let r = request c.in-Some.command in
    let holds = g.S.Shelf.holds c.args.shelf.now in
    let cause = cause_of c.in-Err.refused in
    let proper = refusals_are_proper c.in-Err.refused in
    let why = told_why words r c.in-Some.ensures holds cause c.refuse.result (g.S.Shelf.faults c.args.shelf.now) (g.S.Shelf.faults c.answer.new.shelf) _ _ _ _
    proper.0 proper.1 c.in-Err.ensures.tells c.in-Err.ensures.alone c.refuse.ensures in
    let high = refuses_high cause c.refuse.result _ _ _ _ proper.0 c.refuse.ensures in
    let named = told_named words r c.in-Some.ensures holds cause c.refuse.result _ _ _ _ files proper.0 (named_or files c.in-Err.ensures.alone) c.refuse.ensures in
    completes words files c.refuse.result status text line due
    (λ low. let above : 1 < c.refuse.result = high.0 in absurd (omega (arith, low, above)))
    (λ decided. (why.0, why.1.related decided files are))
    (λ nine. missing_file words holds files are (named nine) _ _ (no_fault (named nine)) (told_unread words r c.in-Some.ensures holds cause c.refuse.result
    (g.S.Shelf.faults c.args.shelf.now) (g.S.Shelf.faults c.answer.new.shelf) _ _ _ _ proper.0 c.in-Err.ensures.tells c.refuse.ensures nine))
    high.1
  where
    named_or : {A : Type 0} {P : Files → Type 0} (files : Files) → A ⊎ ((f : Files) → P f) → A ⊎ P files
    named_or files (inl a) = inl a
    named_or files (inr p) = inr (p files)
