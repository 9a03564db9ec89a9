use Rattle.surf_answers.proofs.Common.{[], Some, inr, sym, subst, Concludes, ConcludesOver}
use Rattle.surf_answers.proofs.Commands.{OnRequest, gen_shape, try_shape, request, ends_over_any, reads_nothing}
use Rattle.surf_words.specs.declared.words.Command.{Command}
use Rattle.surf_run.proofs.commands.answer.Goals as goal

pub returns-in-Check-clause-tells : goal.returns-in-Check-clause-tells
returns-in-Check-clause-tells g c =
    subst (λ (command : Command). ConcludesOver (g.S.Shelf.holds c.args.shelf.now) (g.S.Shelf.faults c.args.shelf.now) (g.S.Shelf.faults c.answer-in-Check.new.shelf) (OnRequest (Some (request command))) c.answer-in-Check.result)
    (sym c.in-Check.is) c.answer-in-Check.ensures.tells

pub returns-in-Gen-clause-tells : goal.returns-in-Gen-clause-tells
returns-in-Gen-clause-tells g c =
    subst (λ (command : Command). ConcludesOver (g.S.Shelf.holds c.args.shelf.now) (g.S.Shelf.faults c.args.shelf.now)
    (g.S.Shelf.faults c.args.shelf.now) (OnRequest (Some (request command))) c.answer-in-Gen.result) (sym c.in-Gen.is)
    (ends_over_any (g.S.Shelf.holds c.args.shelf.now) (g.S.Shelf.faults c.args.shelf.now) (g.S.Shelf.faults c.args.shelf.now)
    (OnRequest (Some (gen_shape c.in-Gen.shape))) c.answer-in-Gen.result c.answer-in-Gen.ensures)

pub returns-in-Gen-clause-reached : goal.returns-in-Gen-clause-reached
returns-in-Gen-clause-reached g c = λ failed.
    absurd (reads_nothing (OnRequest (Some (gen_shape c.in-Gen.shape)) []) c.answer-in-Gen.result (c.answer-in-Gen.ensures []) failed)

pub returns-in-Gen-clause-alone : goal.returns-in-Gen-clause-alone
returns-in-Gen-clause-alone g c =
    inr (λ files. subst (λ (command : Command). Concludes (OnRequest (Some (request command)) files) c.answer-in-Gen.result) (sym c.in-Gen.is) (c.answer-in-Gen.ensures files))

pub returns-in-Try-clause-tells : goal.returns-in-Try-clause-tells
returns-in-Try-clause-tells g c =
    subst (λ (command : Command). ConcludesOver (g.S.Shelf.holds c.args.shelf.now) (g.S.Shelf.faults c.args.shelf.now)
    (g.S.Shelf.faults c.args.shelf.now) (OnRequest (Some (request command))) c.answer-in-Try.result) (sym c.in-Try.is)
    (ends_over_any (g.S.Shelf.holds c.args.shelf.now) (g.S.Shelf.faults c.args.shelf.now) (g.S.Shelf.faults c.args.shelf.now)
    (OnRequest (Some (try_shape c.in-Try.shape c.in-Try.scatter))) c.answer-in-Try.result c.answer-in-Try.ensures)

pub returns-in-Try-clause-reached : goal.returns-in-Try-clause-reached
returns-in-Try-clause-reached g c = λ failed.
    absurd (reads_nothing (OnRequest (Some (try_shape c.in-Try.shape c.in-Try.scatter)) []) c.answer-in-Try.result (c.answer-in-Try.ensures []) failed)

pub returns-in-Try-clause-alone : goal.returns-in-Try-clause-alone
returns-in-Try-clause-alone g c =
    inr (λ files. subst (λ (command : Command). Concludes (OnRequest (Some (request command)) files) c.answer-in-Try.result) (sym c.in-Try.is) (c.answer-in-Try.ensures files))
