use Rattle.surf_surfaces.proofs.Common.{◌≡◌, ◌+◌, ◌*◌, ◌∙◌, length, sym, arith, sum_by}
use Rattle.surf_soup.proofs.SideTables.{three_each}
use Rattle.surf_soup.proofs.ThirdLaws.{three_first}
use Rattle.surf_soup.proofs.soup.face_span.Goals as goal

pub overflow_mul-len : goal.overflow_mul-len
overflow_mul-len c =
    omega (arith, three_each c.requires.faces.0 c.args.faces.now c.requires.faces.1, c.requires.few, c.len.ensures)

pub returns-then-total-len-clause-start : goal.returns-then-total-len-clause-start
returns-then-total-len-clause-start c =
    let faces = c.args.faces.now in
    let total : sum_by length faces ≡ 3 * length faces =
    omega (arith, c.if-total-len.true, c.total.ensures, c.len.ensures) in
    sym (three_first c.requires.faces.0 faces c.requires.faces.1 total c.args.f (omega (arith, c.requires.face)))

pub returns-then-total-len-clause-end : goal.returns-then-total-len-clause-end
returns-then-total-len-clause-end c =
    let faces = c.args.faces.now in
    let total : sum_by length faces ≡ 3 * length faces =
    omega (arith, c.if-total-len.true, c.total.ensures, c.len.ensures) in
    let next : 3 * c.args.f + 3 ≡ 3 * (c.args.f + 1) = omega arith in
    next ∙ sym (three_first c.requires.faces.0 faces c.requires.faces.1 total (c.args.f + 1)
    (omega (arith, c.requires.face)))
