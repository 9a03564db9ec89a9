use Rattle.surf_surfaces.proofs.Common.{◌≡◌, ◌<◌, ℕ, length, get_or, ap, subst, ◌∙◌, arith, get_or_read}
use Rattle.surf_disc.specs.Border.{with_end}
use Rattle.surf_disc.proofs.BorderLaws.{ends_more}
use Rattle.surf_disc.proofs.border.list_ends.Goals as goal

pub loop-corner-preserved : goal.loop-corner-preserved
loop-corner-preserved c =
    let next = c.args.next.now in
    let prev = c.args.prev.now in
    let tails = c.args.tails.now in
    let corners = c.args.corners.now in
    let k = c.loop-corner.corner-index in
    let in' : k < length corners = omega (arith, c.loop-corner-test.true) in
    let side = c.corner-item.result in
    let at : side ≡ get_or corners k 0 = get_or_read corners k side in' c.corner-item.is 0 in
    let below : side < length next = omega (arith, at, c.requires.corners k 0 in') in
    let n = c.requires.nexts side 0 below in
    let p = c.requires.prevs side 0 (omega (arith, below, c.requires.prev_size)) in
    let after : c.index-next-index.result ≡ get_or next side 0 = get_or_read next c.index.result
    c.index-next-index.result (omega (arith, below, c.index.ensures)) c.index-next-index.is 0
    ∙ ap (λ s. get_or next s 0) c.index.ensures in
    let before : c.index-prev-index.result ≡ get_or prev side 0 = get_or_read prev c.index-in-loop-corner.result
    c.index-prev-index.result (omega (arith, below, c.requires.prev_size, c.index-in-loop-corner.ensures))
    c.index-prev-index.is 0 ∙ ap (λ s. get_or prev s 0) c.index-in-loop-corner.ensures in
    let to_after : c.index-in-loop-corner-2.result ≡ get_or next side 0 = c.index-in-loop-corner-2.ensures ∙ after in
    let to_before : c.index-in-loop-corner-3.result ≡ get_or prev side 0 = c.index-in-loop-corner-3.ensures ∙ before in
    let a : c.index-tails-index.result ≡ get_or tails (get_or next side 0) 0 = get_or_read tails
    c.index-in-loop-corner-2.result c.index-tails-index.result
    (omega (arith, n, to_after, c.requires.tails_size)) c.index-tails-index.is 0
    ∙ ap (λ s. get_or tails s 0) to_after in
    let b : c.index-tails-index-in-loop-corner.result ≡ get_or tails (get_or prev side 0) 0 = get_or_read tails
    c.index-in-loop-corner-3.result c.index-tails-index-in-loop-corner.result
    (omega (arith, p, to_before, c.requires.tails_size)) c.index-tails-index-in-loop-corner.is 0
    ∙ ap (λ s. get_or tails s 0) to_before in
    let P : ℕ → Type 0 = λ s. c.push_end-in-loop-corner.new.row.items
    ≡ with_end c.args.across.now s c.index-tails-index-in-loop-corner.result c.push_end.new.row.items in
    ends_more next prev c.args.across.now tails corners k side c.index-tails-index.result
    c.index-tails-index-in-loop-corner.result c.loop-corner.row.items c.push_end.new.row.items
    c.push_end-in-loop-corner.new.row.items in' at a b c.loop-corner.invariant c.in_ok-push_end.ensures.ends
    (subst P before c.in_ok-push_end-2.ensures.ends)
