use Rattle.std.proofs.Common.{◌≡◌, slice_index, set, sym, ap, subst, ◌∙◌}
use Rattle.surf_certcheck.specs.Tops.{IsHeld, IsTop}
use Rattle.surf_certcheck.proofs.Cleared.{tops_set, top_beyond}
use Rattle.surf_certcheck.proofs.tops.raise_top.Goals as goal

pub returns-then-is_held-clause-tops : goal.returns-then-is_held-clause-tops
returns-then-is_held-clause-tops c =
    let judge = c.args.judge.now in
    let limit = c.args.limit in
    let tops = c.args.tops.now in
    let f = c.args.face in
    let above = c.new-above.result in
    let top = slice_index tops above in
    let above_is : above ≡ slice_index tops f = c.new-above.ensures ∙ ap (slice_index tops) c.index.ensures in
    let one : IsTop judge limit f above = subst (IsTop judge limit f) (sym above_is)
    (c.requires.tops.each f c.requires.face c.requires.held.0) in
    let held : IsHeld judge limit above = c.if-is_held.ensures.held in
    let two : IsTop judge limit above top = c.requires.tops.each above one.inside held.0 in
    let value : slice_index tops c.index-then-is_held.result ≡ top = ap (slice_index tops) c.index-then-is_held.ensures in
    tops_set judge limit tops _ f top c.requires.tops c.requires.face
    (ap (λ i. set tops i (slice_index tops c.index-then-is_held.result)) c.index-then-is_held-2.ensures ∙ ap (set tops f) value)
    (top_beyond judge limit f above top c.requires.held held one two)
