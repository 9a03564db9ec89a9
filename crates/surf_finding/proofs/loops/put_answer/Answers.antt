use Rattle.surf_answers.proofs.Common.{◌≡◌, List, subst, Err, flat_map, err_from_is_err_and, grown, Fills}
use Rattle.surf_answers.proofs.Common.{stopped_first, fills_both}
use Rattle.surf_finding.specs.HeadTexts.{head_line, loop_heads_text}
use Rattle.surf_loops.specs.declared.head.LoopHead.{LoopHead}
use Rattle.surf_finding.proofs.loops.put_answer.Goals as goal

pub returns-in_err-put_head : goal.returns-in_err-put_head
returns-in_err-put_head c =
    let fault = c.in_err-put_head.field-0.0 in
    let p = err_from_is_err_and c.from_residual.result c.from_residual.ensures.1 in
    rw (p.1, p.2) (stopped_first c.args.page.now c.put_head.new.page (loop_heads_text c.args.loops.now.heads) (flat_map (head_line c.args.mesh.now c.args.loops.now.tree) c.args.loops.now.heads) fault
    (subst (λ (hs : List LoopHead). Fills {A = Unit {0}} c.args.page.now c.put_head.new.page (loop_heads_text hs) (Err fault)) c.heads.ensures.heads c.in_err-put_head.ensures))

pub returns : goal.returns
returns c =
    fills_both c.args.page.now c.put_head.new.page c.put_loops.new.page (loop_heads_text c.args.loops.now.heads)
    (flat_map (head_line c.args.mesh.now c.args.loops.now.tree) c.args.loops.now.heads) c.put_loops.result
    (subst (λ (hs : List LoopHead). c.put_head.new.page ≡ grown c.args.page.now (loop_heads_text hs)) c.heads.ensures.heads c.in_ok-put_head.ensures)
    c.put_loops.ensures
