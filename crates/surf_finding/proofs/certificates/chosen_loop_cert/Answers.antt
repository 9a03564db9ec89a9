use Rattle.surf_answers.proofs.Common.{sym, subst}
use Rattle.surf_loops.specs.Loops.{IsGreedy}
use Rattle.surf_finding.proofs.CertifyLaws.{is_the_loop_cert}
use Rattle.surf_finding.proofs.certificates.chosen_loop_cert.Goals as goal

pub cert-requires-clause-greedy : goal.cert-requires-clause-greedy
cert-requires-clause-greedy c =
    let greedy = c.greedy.ensures.greedy in
    subst (λ x. IsGreedy c.args.mesh.now c.args.lengths.now x c.greedy.new.self) (sym greedy.tree.base_is) greedy

pub returns-clause-cert : goal.returns-clause-cert
returns-clause-cert c = is_the_loop_cert c.args.mesh.now c.args.lengths.now c.args.base c.greedy.new.self c.cert.result c.greedy.ensures.greedy c.cert.ensures.cert c.cert.ensures.valid
