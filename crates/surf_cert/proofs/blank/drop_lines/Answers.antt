use Rattle.surf_cert.proofs.Common.{◌≡◌, ◌+◌, ℕ, List, drop, sym, ◌∙◌, ap, arith, lines_of}
use Rattle.surf_cert.proofs.BlankLines.{from_line, blank_lines}
use Rattle.surf_cert.proofs.blank.drop_lines.Goals as goal

pub returns-clause-lines : goal.returns-clause-lines
returns-clause-lines c =
    let at = c.find_behind-at.result.0 in
    let lines = c.find_behind-at.result.1 in
    let next : 1 + lines ≡ lines + 1 = omega arith in
    let text = c.deref.ensures.value in
    ap lines_of c.blank_front.ensures.blank ∙ blank_lines lines 1 (drop at c.args.text.now.items) ∙ ap (λ (t : List ℕ). from_line (1 + lines) (drop at t)) (sym text)
    ∙ ap (λ (n : ℕ). from_line n (drop at c.deref.result.now)) next ∙ c.find_behind-at.ensures.lines ∙ ap (λ (t : List ℕ). drop c.args.count (lines_of t)) text
