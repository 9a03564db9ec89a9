use Rattle.surf_answers.proofs.Common.{◌≡◌, ℕ, List, length, map, sym, subst, Err, sum, flat_map, err_from_is_err_and}
use Rattle.surf_answers.proofs.Common.{grown, total_lines, Fills, stopped_first, fills_both}
use Rattle.surf_finding.specs.CycleTexts.{cycle_found_line}
use Rattle.surf_finding.proofs.CycleLaws.{text_of_cycles}
use Rattle.surf_finding.proofs.basis.put_basis.Goals as goal

pub returns-in_err-put_cycles_head : goal.returns-in_err-put_cycles_head
returns-in_err-put_cycles_head c =
    let cs = c.args.basis.now in
    let page = c.args.page.now in
    let new = c.put_cycles_head.new.page in
    let fault = c.in_err-put_cycles_head.field-0.0 in
    let p = err_from_is_err_and c.from_residual.result c.from_residual.ensures.1 in
    rw (p.1, p.2) (subst (λ (text : List ℕ). Fills {A = Unit {0}} page new text (Err fault)) (sym (text_of_cycles cs))
    (stopped_first page new (total_lines "cycles " (length cs) (sum (map (λ x. x.length) cs))) (flat_map cycle_found_line cs) fault
    (subst (λ (n : ℕ). Fills {A = Unit {0}} page new (total_lines "cycles " (length cs) n) (Err fault)) c.total_of.ensures c.in_err-put_cycles_head.ensures.fills)))

pub returns : goal.returns
returns c =
    let cs = c.args.basis.now in
    let page = c.args.page.now in
    let mid = c.put_cycles_head.new.page in
    let new = c.put_cycles.new.page in
    subst (λ (text : List ℕ). Fills page new text c.put_cycles.result) (sym (text_of_cycles cs))
    (fills_both page mid new (total_lines "cycles " (length cs) (sum (map (λ x. x.length) cs))) (flat_map cycle_found_line cs) c.put_cycles.result
    (subst (λ (n : ℕ). mid ≡ grown page (total_lines "cycles " (length cs) n)) c.total_of.ensures c.in_ok-put_cycles_head.ensures.fills)
    c.put_cycles.ensures)
