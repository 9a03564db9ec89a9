use Rattle.surf_answers.proofs.Common.{◌≡◌, List, ℕ, Ok, Err, ap, ◌∙◌, refl, subst, Outcome, cause_of, Why}
use Rattle.surf_answers.proofs.Commands.{OffParts, parts_at, begun, over, past, ended, stopped}
use Rattle.surf_answers.specs.Lengths.{Measures}
use Rattle.surf_looking.proofs.commands.lengths.answer.Goals as goal

pub returns-in_err-places-clause-tells : goal.returns-in_err-places-clause-tells
returns-in_err-places-clause-tells g c =
    let bytes = c.in_ok-bytes in
    stopped (over begun bytes.bytes.items refl bytes.ensures.tells bytes.ensures.later)
    c.in_err-places.field-0.0 c.in_err-places.ensures.tells c.from_residual-in_err-places.result
    c.from_residual-in_err-places.ensures.1

pub returns-in_err-lengths-clause-tells : goal.returns-in_err-lengths-clause-tells
returns-in_err-lengths-clause-tells g c =
    let bytes = c.in_ok-bytes in
    let read = c.in_ok-places in
    let parts = parts_at c.read_front.new.bytes.items read.places in
    let is : c.over.result ≡ parts = c.over.ensures.parts ∙ ap (λ (text : List ℕ). parts_at text read.places) c.deref.ensures.value in
    stopped (past (over begun bytes.bytes.items refl bytes.ensures.tells bytes.ensures.later) (parts, read.mesh) read.ensures.tells)
    c.in_err-lengths.field-0.0
    (subst (λ (p : OffParts). Why (λ (o : Outcome). Measures c.args.decimals (p, read.mesh) (Err o)) (cause_of c.in_err-lengths.field-0.0)) is c.in_err-lengths.ensures.tells)
    c.from_residual-in_err-lengths.result c.from_residual-in_err-lengths.ensures.1

pub returns-clause-tells : goal.returns-clause-tells
returns-clause-tells g c =
    let bytes = c.in_ok-bytes in
    let read = c.in_ok-places in
    let lengths = c.in_ok-lengths in
    let parts = parts_at c.read_front.new.bytes.items read.places in
    let is : c.over.result ≡ parts = c.over.ensures.parts ∙ ap (λ (text : List ℕ). parts_at text read.places) c.deref.ensures.value in
    ended (past (past (over begun bytes.bytes.items refl bytes.ensures.tells bytes.ensures.later) (parts, read.mesh) read.ensures.tells)
    lengths.lengths (subst (λ (p : OffParts). Measures c.args.decimals (p, read.mesh) (Ok lengths.lengths)) is lengths.ensures.tells))
    c.lengths_text.result c.lengths_text.ensures
