use Rattle.surf_answers.proofs.Common.{ℕ, List, refl, Mesh, CertificateVertices, Outcome}
use Rattle.surf_answers.proofs.Commands.{Files, JudgesCert, Reads, IsCertText, tree_count, Ends, AtMost, over, ended}
use Rattle.surf_answers.proofs.Commands.{stopped_over, measured_front}
use Rattle.surf_judging.proofs.commands.check.answer.Goals as goal

-- what follows the front of the row
abbrev behind : List ℕ → Mesh → List ℕ → Files → Outcome → Type 0
behind cert mesh values files = Ends (Reads cert files) (λ text. Ends (IsCertText text) (λ certificate.
    Ends (AtMost CertificateVertices 1000 (tree_count mesh certificate)) (λ _. JudgesCert mesh values certificate)))

pub returns-in_err-mesh-clause-tells : goal.returns-in_err-mesh-clause-tells
returns-in_err-mesh-clause-tells g c =
    stopped_over (measured_front (behind c.args.cert.now) c.args.mesh.now c.args.lengths.now) _ c.in_err-mesh.field-0.0 refl
    c.in_err-mesh.ensures.tells c.from_residual.result c.from_residual.ensures.1

pub returns-in_err-text-clause-tells : goal.returns-in_err-text-clause-tells
returns-in_err-text-clause-tells g c =
    let front = c.in_ok-mesh in
    stopped_over (over (measured_front (behind c.args.cert.now) c.args.mesh.now c.args.lengths.now) (front.mesh, front.lengths) refl
    front.ensures.tells front.ensures.later) _ c.in_err-text.field-0.0 front.ensures.holds
    c.in_err-text.ensures.tells c.from_residual-in_err-text.result c.from_residual-in_err-text.ensures.1

pub returns-clause-tells : goal.returns-clause-tells
returns-clause-tells g c =
    let front = c.in_ok-mesh in
    ended (over (over (measured_front (behind c.args.cert.now) c.args.mesh.now c.args.lengths.now) (front.mesh, front.lengths) refl
    front.ensures.tells front.ensures.later) c.in_ok-text.text.items front.ensures.holds c.in_ok-text.ensures.tells
    c.in_ok-text.ensures.later) c.judge_text.result c.judge_text.ensures
