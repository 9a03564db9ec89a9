use Rattle.surf_answers.proofs.Common.{ℕ, List, subst, option_copied, seen, evidence_text, Stops, evidence_words, GivesClass, page_stopped}
use Rattle.surf_walking.proofs.classes.class_of.Goals as goal

pub returns-in_err-write_evidence : goal.returns-in_err-write_evidence
returns-in_err-write_evidence c =
    let other = option_copied c.args.second in
    let evidence = seen c.in_ok-evidence.evidence in
    let fault = c.in_err-write_evidence.field-0.0 in
    page_stopped (GivesClass c.args.mesh.now c.args.first.now other) (evidence_text (evidence_words other).0 (evidence_words other).1 evidence) c.make-page.result c.make-page.ensures.empty
    (λ o says. record { evidence = evidence; chosen = c.in_ok-evidence.ensures.chosen; right = c.in_ok-evidence.ensures.right; says = says }) fault
    (subst (λ (w : List ℕ). Stops c.make-page.result (evidence_text w (evidence_words other).1 evidence) fault) c.kinds.ensures.null
    (subst (λ (w : List ℕ). Stops c.make-page.result (evidence_text c.kinds.result.0.now w evidence) fault) c.kinds.ensures.odd
    c.in_err-write_evidence.ensures.puts.1)) c.from_residual-in_err-write_evidence.result c.from_residual-in_err-write_evidence.ensures.1
