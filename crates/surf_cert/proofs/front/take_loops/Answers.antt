use Rattle.surf_cert.proofs.Common.{◌≡◌, ◌+◌, ℕ, List, drop, subst, sym, ap, ◌∙◌, err_from_is_err_and, TextLine, lines_of, Gives, Memory, loops_in, Front, front_faces, behind_front}
use Rattle.surf_cert.proofs.FrontLines.{front_read, front_bad}
use Rattle.surf_cert.proofs.front.take_loops.Goals as goal

pub returns-in_err-front : goal.returns-in_err-front
returns-in_err-front c =
    let p = err_from_is_err_and c.from_residual.result c.from_residual.ensures.1 in
    let text = ap (λ (t : List ℕ). loops_in (drop 1 (lines_of t))) (sym c.deref.ensures.value) in
    rw (p.1, p.2) (record { loops = λ other. text ∙ front_bad (drop 1 (lines_of c.deref.result.now)) c.in_err-front.field-0.0 (c.in_err-front.ensures.front other) })

pub returns : goal.returns
returns c =
    let f = c.in_ok-front.front in
    let front : Front = (f.counts, f.tree, record { depth = f.depth.items; side = f.side.items }) in
    let n = f.counts.vertices + front_faces f.counts + 4 in
    let text = c.deref.ensures.value in
    let behind : lines_of c.deref-2.result.now ≡ drop n (lines_of c.deref.result.now) = ap lines_of c.deref-2.ensures.value ∙ c.drop_lines.ensures.lines ∙ ap (λ (t : List ℕ). drop n (lines_of t)) (sym text) in
    let gives = subst (λ (lines : List TextLine). Gives Memory (λ x. x) c.read_behind.result (behind_front front lines)) behind c.read_behind.ensures.loops in
    record { loops = subst (λ (t : List ℕ). Gives Memory (λ x. x) c.read_behind.result (loops_in (drop 1 (lines_of t)))) text (front_read c.read_behind.result front (drop 1 (lines_of c.deref.result.now)) (drop n (lines_of c.deref.result.now)) c.in_ok-front.ensures.front gives) }
