use Rattle.surf_slit.proofs.Common.{◌≡◌, ◌<◌, ◌+◌, ◌-◌, ℕ, length, get_or, ap, sym, ◌∙◌, subst, arith, get_or_read, after, side_count, same_pair}
use Rattle.surf_cutter.proofs.Common.{corners_of}
use Rattle.surf_cutter.proofs.Rims.{same_total, in_table, after_in, corners_in_table}
use Rattle.surf_cutter.proofs.disc_cut.Bordered.corners.Goals as goal

pub face_of-requires : goal.face_of-requires
face_of-requires c =
    let all = ap side_count c.self.view_is in
    omega (arith, c.requires, all, same_total c.self.inside.mesh.now c.self.inside.disc.now.faces c.self.invariant.sizes)

pub bounds-corners-index : goal.bounds-corners-index
bounds-corners-index c =
    let mesh = c.self.inside.mesh.now in
    let faces = c.self.inside.disc.now.faces in
    let same = c.self.invariant.sizes in
    let span = c.side_span-first.ensures in
    let all = ap side_count c.self.view_is in
    let side_in : c.args.side < side_count mesh = omega (arith, c.requires, all, same_total mesh faces same) in
    subst (λ (s : ℕ). s < length c.corners-corners.result.now) (sym c.index.ensures)
    (in_table mesh faces same c.args.side c.face_of.result c.side_span-first.result.0 c.side_span-first.result.1 c.face_of.ensures span.start span.end c.corners-corners.result.now c.corners-corners.ensures c.args.side side_in)

pub bounds-corners-next : goal.bounds-corners-next
bounds-corners-next c =
    let span = c.side_span-first.ensures in
    let first : ℕ = c.side_span-first.result.0 in
    let end : ℕ = c.side_span-first.result.1 in
    let next : c.after_side-next.result ≡ first + after (end - first) (c.args.side - first) = c.after_side-next.ensures ∙ ap (λ (s : ℕ). first + after (end - first) (s - first)) c.number.ensures in
    subst (λ (s : ℕ). s < length c.corners-corners.result.now) (sym next)
    (after_in c.self.inside.mesh.now c.self.inside.disc.now.faces c.self.invariant.sizes c.args.side c.face_of.result first end c.face_of.ensures span.start span.end c.corners-corners.result.now c.corners-corners.ensures span.inside)

pub returns : goal.returns
returns c =
    let mesh = c.self.inside.mesh.now in
    let faces = c.self.inside.disc.now.faces in
    let same = c.self.invariant.sizes in
    let side : ℕ = c.args.side in
    let all = ap side_count c.self.view_is in
    let side_in : side < side_count mesh = omega (arith, c.requires, all, same_total mesh faces same) in
    let f = c.face_of.result in
    let of = c.face_of.ensures in
    let span = c.side_span-first.ensures in
    let first : ℕ = c.side_span-first.result.0 in
    let end : ℕ = c.side_span-first.result.1 in
    let table = c.corners-corners.result.now in
    let rows = c.corners-corners.ensures in
    let place : ℕ = first + after (end - first) (side - first) in
    let next : c.after_side-next.result ≡ place = c.after_side-next.ensures ∙ ap (λ (s : ℕ). first + after (end - first) (s - first)) c.number.ensures in
    let x = c.index-corners-index.result in
    let y = c.index-corners-next.result in
    let tail : c.number-2.result ≡ get_or table side 0 =
    c.number-2.ensures ∙ get_or_read table side x (in_table mesh faces same side f first end of span.start span.end table rows side side_in) (c.index-corners-index.is ∙ ap (λ (s : ℕ). get_or table s x) c.index.ensures) 0 in
    let head : c.number-3.result ≡ get_or table place 0 =
    c.number-3.ensures ∙ get_or_read table place y (after_in mesh faces same side f first end of span.start span.end table rows span.inside) (c.index-corners-next.is ∙ ap (λ (s : ℕ). get_or table s y) next) 0 in
    same_pair tail head ∙ corners_in_table mesh faces same side f first end of span.start span.end table rows
    ∙ ap (λ disc. corners_of disc side) c.self.view_is
