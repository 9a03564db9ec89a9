use Rattle.std.proofs.Common.{◌≡◌, ℕ, refl, subst, inl, inr}
use Rattle.std.proofs.lemmas.Bool.{cases_lt}
use Rattle.surf_base.specs.Outside.{Files}
use Rattle.surf_c.specs.Calls.{three, IsSaid}
use Rattle.surf_words.specs.Words.{texts}
use Rattle.surf_c.proofs.Telling.{unrisen, answer_said, line_said, misses_said}
use Rattle.surf_c.proofs.answer.Goals as goal

pub returns : goal.returns
returns c =
    let words = texts c.args.words.now in
    let shelf = c.new-shelf.result in
    let files = three shelf.first.now shelf.second.now shelf.third.now in
    let status : ℕ = c.run-status.result in
    let out_quiet = unrisen c.new-out.result.faults c.run-status.new.out.faults c.new-out.ensures.faults c.if-out-gt0.false in
    let diag_quiet = unrisen c.new-diag.result.faults c.run-status.new.diag.faults c.new-diag.ensures.faults c.if-diag-gt0.false in
    let said : IsSaid words files status c.chosen.result.items = elim (cases_lt 1 status) [
      | inl high ↦ line_said words files status c.chosen.result.items c.new-diag.result.bytes.items c.run-status.new.diag.bytes.items
          c.new-diag.result.faults c.run-status.new.diag.faults c.new-diag.ensures.bytes (c.chosen.ensures.line high) diag_quiet
          high c.run-status.ensures.statuses (λ written. out_quiet (c.run-status.ensures.write written).0)
          (λ nine. misses_said words files (c.run-status.ensures.read nine)) (c.run-status.ensures.line high)
      | inr low ↦ answer_said words files status c.chosen.result.items c.new-out.result.bytes.items c.run-status.new.out.bytes.items
          c.new-out.ensures.bytes (c.chosen.ensures.answer low) low (c.run-status.ensures.answered low files (inl refl))
    ] in
    let same : files ≡ three c.args.first.now c.args.second.now c.args.third.now =
    rw (c.new-shelf.ensures.first, c.new-shelf.ensures.second, c.new-shelf.ensures.third) refl in
    record { said = subst (λ (held : Files). IsSaid words held status c.chosen.result.items) same said }
