use Rattle.surf_answers.proofs.Common.{◌≡◌, ◌<◌, ◌∙◌, ℕ, List, length, get_or, ap, subst, Err, err_from_is_err_and}
use Rattle.surf_answers.proofs.Common.{Memory, Fills, measured_line, none_put}
use Rattle.surf_finding.specs.HeadTexts.{head_line}
use Rattle.surf_loops.specs.declared.head.LoopHead.{LoopHead}
use Rattle.surf_texts.proofs.Filling.{stopped}
use Rattle.surf_finding.proofs.loops.put_loops.Goals as goal

pub returns-in_err-put_loop : goal.returns-in_err-put_loop
returns-in_err-put_loop c =
    let h = c.head-item.result in
    let i = c.loop-head.head-index in
    let fault = c.in_err-put_loop.field-0.0 in
    let heads = c.heads-head-items.ensures.heads in
    let here : h ≡ get_or c.args.loops.now.heads i h = c.head-item.is ∙ ap (λ (hs : List LoopHead). get_or hs i h) heads in
    let p = err_from_is_err_and c.from_residual.result c.from_residual.ensures.1 in
    rw (p.1, p.2) (stopped c.args.page.now c.loop-head.page c.put_loop.new.page (head_line c.args.mesh.now c.args.loops.now.tree) c.args.loops.now.heads i h fault
    (subst (λ (hs : List LoopHead). i < length hs) heads c.loop-head-test.true) c.loop-head.invariant
    (subst (λ (x : LoopHead). Fills {A = Unit {0}} c.loop-head.page c.put_loop.new.page (head_line c.args.mesh.now c.args.loops.now.tree x) (Err fault)) here
    (subst (λ (walk : List ℕ). Fills {A = Unit {0}} c.loop-head.page c.put_loop.new.page (measured_line "loop " h.length walk) (Err fault)) (c.vertices.ensures ∙ c.in-Ok.ensures.walk) c.in_err-put_loop.ensures.fills)))

pub returns-in_default : goal.returns-in_default
returns-in_default c =
    let h = c.head-item.result in
    let i = c.loop-head.head-index in
    let f = head_line c.args.mesh.now c.args.loops.now.tree in
    stopped c.args.page.now c.loop-head.page c.loop-head.page f c.args.loops.now.heads i h Memory
    (subst (λ (hs : List LoopHead). i < length hs) c.heads-head-items.ensures.heads c.loop-head-test.true) c.loop-head.invariant
    (none_put c.loop-head.page (f (get_or c.args.loops.now.heads i h)))
