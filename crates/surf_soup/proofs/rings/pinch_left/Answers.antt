use Rattle.surf_surfaces.proofs.Common.{[], ◌<◌, length, get_or, ap, ◌∙◌, arith, get_or_read}
use Rattle.surf_soup.proofs.VertexLaws.{corners_len}
use Rattle.surf_soup.proofs.LeftSides.{left_pinch, read_pinch}
use Rattle.surf_soup.proofs.RingMarks.{first_side_at}
use Rattle.surf_soup.proofs.rings.pinch_left.Goals as goal

pub bounds-first-index : goal.bounds-first-index
bounds-first-index c =
    let pinch = left_pinch c.args.darts.now.mesh c.args.seen.now c.firsts-first.result.now _ _
    c.law_of_darts.ensures.tables.is_mesh c.requires.fans c.firsts-first.ensures c.in-Some.ensures in
    omega (arith, pinch.is_vertex, c.index.ensures, c.firsts-first.ensures.size)

pub face_at-requires : goal.face_at-requires
face_at-requires c =
    let mesh = c.args.darts.now.mesh in
    let first = c.firsts-first.result.now in
    let pinch = left_pinch mesh c.args.seen.now first _ _ c.law_of_darts.ensures.tables.is_mesh c.requires.fans
    c.firsts-first.ensures c.in-Some.ensures in
    let lt : c.index.result < length first =
    omega (arith, pinch.is_vertex, c.index.ensures, c.firsts-first.ensures.size) in
    let begin = first_side_at mesh c.args.darts.now.mate [] c.law_of_darts.ensures.tables first c.index.result
    c.firsts-first.ensures c.law_of_darts.ensures.met (omega (arith, pinch.is_vertex, c.index.ensures)) in
    let home = get_or_read first c.index.result c.index-first-index.result lt c.index-first-index.is 0 in
    omega (arith, home, begin.0)

pub face_at-requires-in-Some : goal.face_at-requires-in-Some
face_at-requires-in-Some c = omega (arith, c.in-Some.ensures.is_side, corners_len c.args.darts.now.mesh)

pub returns-in-Some : goal.returns-in-Some
returns-in-Some c =
    let mesh = c.args.darts.now.mesh in
    let first = c.firsts-first.result.now in
    let pinch = left_pinch mesh c.args.seen.now first _ _ c.law_of_darts.ensures.tables.is_mesh c.requires.fans
    c.firsts-first.ensures c.in-Some.ensures in
    let lt : c.index.result < length first =
    omega (arith, pinch.is_vertex, c.index.ensures, c.firsts-first.ensures.size) in
    let home = get_or_read first c.index.result c.index-first-index.result lt c.index-first-index.is 0
    ∙ ap (λ u. get_or first u 0) c.index.ensures in
    rw (c.face_at.ensures, c.face_at-in-Some.ensures)
    (read_pinch mesh c.args.seen.now first _ _ c.index-first-index.result c.law_of_darts.ensures.tables.is_mesh
    c.requires.fans c.firsts-first.ensures c.in-Some.ensures home)
