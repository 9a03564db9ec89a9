use Rattle.surf_answers.proofs.Common.{ℕ, List, Ok, Err, subst, Outcome, cause_of, Concludes, Why}
use Rattle.surf_answers.proofs.Commands.{HasOrigins, IsSewn, OnSewnMesh, alone, past_alone, stopped_alone}
use Rattle.surf_cutting.proofs.commands.sew.sew_mesh.Goals as goal

pub returns-in_err-origins : goal.returns-in_err-origins
returns-in_err-origins c =
    stopped_alone alone c.in_err-origins.field-0.0
    (subst (λ (n : ℕ). Why (λ (o : Outcome). HasOrigins c.args.bytes.now n (Err o)) (cause_of c.in_err-origins.field-0.0))
    c.vertices.ensures.count c.in_err-origins.ensures.tells) c.from_residual.result c.from_residual.ensures.1

pub returns-in_err-sewn : goal.returns-in_err-sewn
returns-in_err-sewn c =
    let origins = c.in_ok-origins in
    stopped_alone (past_alone alone origins.origins.items
    (subst (λ (n : ℕ). HasOrigins c.args.bytes.now n (Ok origins.origins.items)) c.vertices.ensures.count origins.ensures.tells))
    c.in_err-sewn.field-0.0
    (subst (λ (l : List ℕ). Why (λ (o : Outcome). IsSewn (c.args.text.now, c.args.copies.now) l (Err o)) (cause_of c.in_err-sewn.field-0.0))
    c.deref.ensures.value c.in_err-sewn.ensures.tells) c.from_residual-in_err-sewn.result
    c.from_residual-in_err-sewn.ensures.1

pub returns : goal.returns
returns c =
    let origins = c.in_ok-origins in
    let sewn = c.in_ok-sewn in
    (past_alone (past_alone alone origins.origins.items
    (subst (λ (n : ℕ). HasOrigins c.args.bytes.now n (Ok origins.origins.items)) c.vertices.ensures.count origins.ensures.tells))
    sewn.sewn (subst (λ (l : List ℕ). IsSewn (c.args.text.now, c.args.copies.now) l (Ok sewn.sewn)) c.deref.ensures.value sewn.ensures.tells)).so
    c.sewn_disc.result
    (subst (λ (l : List ℕ). Concludes (OnSewnMesh (c.args.text.now, c.args.copies.now) l sewn.sewn) c.sewn_disc.result)
    c.deref-2.ensures.value c.sewn_disc.ensures)
