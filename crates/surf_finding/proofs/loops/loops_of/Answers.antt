use Rattle.surf_answers.proofs.Common.{refl, GivesLoops, page_answered, page_stopped}
use Rattle.surf_finding.specs.HeadTexts.{heads_text}
use Rattle.surf_loops.specs.Loops.{with_cotree}
use Rattle.surf_finding.proofs.HeadLaws.{gives_loops, heads_inside}
use Rattle.surf_finding.proofs.loops.loops_of.Goals as goal

pub put_answer-requires-clause-rooted : goal.put_answer-requires-clause-rooted
put_answer-requires-clause-rooted c = c.in_ok-loops.ensures.greedy.greedy.rooted

pub put_answer-requires-clause-edges : goal.put_answer-requires-clause-edges
put_answer-requires-clause-edges c = heads_inside c.args.mesh.now c.args.lengths.now c.args.base (with_cotree c.in_ok-loops.loops c.in_ok-loops.ensures.greedy.cotree) c.in_ok-loops.ensures.greedy.greedy

pub returns-in_err-put_answer : goal.returns-in_err-put_answer
returns-in_err-put_answer c =
    let g = c.in_ok-loops.ensures.greedy in
    let t = with_cotree c.in_ok-loops.loops g.cotree in
    page_stopped (GivesLoops c.args.mesh.now c.args.lengths.now c.args.base) (heads_text c.args.mesh.now t.tree t.heads) c.make-page.result c.make-page.ensures.empty
    (gives_loops c.args.mesh.now c.args.lengths.now c.args.base t g.greedy) c.in_err-put_answer.field-0.0 c.in_err-put_answer.ensures.1
    c.from_residual-in_err-put_answer.result c.from_residual-in_err-put_answer.ensures.1

pub returns : goal.returns
returns c =
    let g = c.in_ok-loops.ensures.greedy in
    let t = with_cotree c.in_ok-loops.loops g.cotree in
    page_answered (GivesLoops c.args.mesh.now c.args.lengths.now c.args.base) (heads_text c.args.mesh.now t.tree t.heads) c.make-page.result c.make-page.ensures.empty
    (gives_loops c.args.mesh.now c.args.lengths.now c.args.base t g.greedy) c.put_answer.new.page c.in_ok-put_answer.ensures c.yes.result _ c.yes.ensures refl
    c.into_bytes.ensures.bytes c.into_bytes.ensures.within
