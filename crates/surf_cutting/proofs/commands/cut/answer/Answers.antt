use Rattle.surf_answers.proofs.Common.{◌≡◌, List, ℕ, ap, ◌∙◌, refl, subst, GivesOpened, Concludes}
use Rattle.surf_answers.proofs.Commands.{OffParts, parts_at, extent_of, begun, over, past, ended, stopped}
use Rattle.surf_answers.proofs.Commands.{stopped_over}
use Rattle.surf_cutting.proofs.Cutting.{in_one_step}
use Rattle.surf_cutting.proofs.commands.cut.answer.Goals as goal

pub returns-in_err-places-clause-tells : goal.returns-in_err-places-clause-tells
returns-in_err-places-clause-tells g c =
    let bytes = c.in_ok-bytes in
    stopped (over begun bytes.bytes.items refl bytes.ensures.tells bytes.ensures.later)
    c.in_err-places.field-0.0 c.in_err-places.ensures.tells c.from_residual-in_err-places.result
    c.from_residual-in_err-places.ensures.1

pub returns-in_err-opened-clause-tells : goal.returns-in_err-opened-clause-tells
returns-in_err-opened-clause-tells g c =
    let bytes = c.in_ok-bytes in
    let read = c.in_ok-places in
    let parts = parts_at c.read_front.new.bytes.items read.places in
    stopped_over (in_one_step (extent_of c.args.extent) parts read.mesh c.args.lengths.now c.args.base
    (past (over begun bytes.bytes.items refl bytes.ensures.tells bytes.ensures.later) (parts, read.mesh) read.ensures.tells))
    _ c.in_err-opened.field-0.0 bytes.ensures.holds c.in_err-opened.ensures.tells
    c.from_residual-in_err-opened.result c.from_residual-in_err-opened.ensures.1

pub returns-clause-tells : goal.returns-clause-tells
returns-clause-tells g c =
    let bytes = c.in_ok-bytes in
    let read = c.in_ok-places in
    let opened = c.in_ok-opened in
    let parts = parts_at c.read_front.new.bytes.items read.places in
    let is : c.over-text.result ≡ parts = c.over-text.ensures.parts ∙ ap (λ (text : List ℕ). parts_at text read.places) c.deref.ensures.value in
    ended (over (in_one_step (extent_of c.args.extent) parts read.mesh c.args.lengths.now c.args.base
    (past (over begun bytes.bytes.items refl bytes.ensures.tells bytes.ensures.later) (parts, read.mesh) read.ensures.tells))
    opened.opened bytes.ensures.holds opened.ensures.tells opened.ensures.later)
    c.disc_text.result (subst (λ (p : OffParts). Concludes (GivesOpened p opened.opened) c.disc_text.result) is c.disc_text.ensures)
