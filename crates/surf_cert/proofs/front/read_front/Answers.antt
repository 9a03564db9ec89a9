use Rattle.surf_cert.proofs.Common.{◌≡◌, List, drop, subst, ap, ◌∙◌, TextLine, lines_of, Gives, Memory, front_in}
use Rattle.surf_cert.specs.declared.front.Front.{Front}
use Rattle.surf_cert.proofs.FrontLines.{front_behind, header_gone}
use Rattle.surf_cert.proofs.front.read_front.Goals as goal

pub returns : goal.returns
returns c =
    let gone = header_gone c.next_line.result _ _ c.next_line.ensures.next ∙ ap (drop 1) c.over-lines.ensures.lines in
    let gives = subst (λ (lines : List TextLine). Gives Memory (λ (x : Front). ((x.counts, x.tree, record { depth = x.depth.items; side = x.side.items }), c.read_front_lines.new.lines)) c.read_front_lines.result (front_in lines)) gone c.read_front_lines.ensures.front in
    record { front = front_behind c.read_front_lines.result (λ (x : Front). (x.counts, x.tree, record { depth = x.depth.items; side = x.side.items })) (lines_of c.args.text.now) c.read_front_lines.new.lines gives }
