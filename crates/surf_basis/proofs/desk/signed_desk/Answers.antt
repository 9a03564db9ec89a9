use Rattle.surf_basis.proofs.Common.{LoopTables, SignTables, All, ◌<◌, ◌∙◌, length, refl, sym, ap, subst, edge_count, signs_of, AreSigned, IsLoopCount, some_vertex}
use Rattle.surf_basis.proofs.OnCut.{desk_divided, left_inside}
use Rattle.surf_basis.proofs.Whole.{left_full, desk_signed}
use Rattle.surf_basis.proofs.desk.signed_desk.Goals as goal

pub greedy-requires-clause-base : goal.greedy-requires-clause-base
greedy-requires-clause-base c = subst (λ n. n < c.args.mesh.now.vertices) (sym c.new.ensures) (some_vertex c.args.mesh.now c.law_of_surface.ensures.surface)

pub returns-clause-signed : goal.returns-clause-signed
returns-clause-signed c =
    let mesh = c.args.mesh.now in
    let t = c.greedy.new.self in
    let new = c.sign.new.self in
    let at = c.in_ok-signs.ensures.made ∙ ap signs_of c.cotree.ensures.cotree in
    let many = ap (λ (x : LoopTables). length x.cotree.left) c.sign.ensures.rest in
    subst (λ (s : SignTables). AreSigned mesh s (length s.left)) (sym at)
    (desk_signed mesh c.args.lengths.now c.new.result t new t.cotree new.cotree t.cotree.left (length new.cotree.left) c.greedy.ensures.greedy
    refl refl many c.sign.ensures.rest c.sign.ensures.signed refl)

pub returns-clause-left : goal.returns-clause-left
returns-clause-left c =
    let mesh = c.args.mesh.now in
    let at = c.in_ok-signs.ensures.made ∙ ap signs_of c.cotree.ensures.cotree in
    subst (λ (s : SignTables). All (λ e. e < edge_count mesh) s.left) (sym at)
    (left_inside mesh c.sign.new.self
    (desk_divided mesh c.args.lengths.now c.new.result c.greedy.new.self c.sign.new.self c.greedy.ensures.greedy c.sign.ensures.rest))

pub returns-clause-full : goal.returns-clause-full
returns-clause-full c =
    let mesh = c.args.mesh.now in
    let t = c.greedy.new.self in
    let at = c.in_ok-signs.ensures.made ∙ ap signs_of c.cotree.ensures.cotree in
    let many = ap (λ (x : LoopTables). length x.cotree.left) c.sign.ensures.rest in
    subst (λ (s : SignTables). IsLoopCount mesh (length s.left)) (sym at)
    (subst (IsLoopCount mesh) (sym many) (left_full mesh c.args.lengths.now c.new.result t t.cotree t.cotree.left c.greedy.ensures.greedy refl refl))

pub returns-clause-divided : goal.returns-clause-divided
returns-clause-divided c =
    desk_divided c.args.mesh.now c.args.lengths.now c.new.result c.greedy.new.self c.sign.new.self c.greedy.ensures.greedy c.sign.ensures.rest
