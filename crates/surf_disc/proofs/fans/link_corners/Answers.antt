use Rattle.surf_surfaces.proofs.Common.{◌≡◌, ◌<◌, ◌+◌, ℕ, List, length, get_or, sym, ap, subst, ◌∙◌, arith, get_or_read, after, before, side_count}
use Rattle.surf_soup.specs.Vertices.{all_corners}
use Rattle.surf_soup.proofs.TurnedSides.{turned_size}
use Rattle.surf_soup.proofs.VertexLaws.{corners_len}
use Rattle.surf_disc.specs.Links.{AreLinked, over_corner}
use Rattle.surf_disc.proofs.CornerLaws.{prev_in, across_inside}
use Rattle.surf_disc.proofs.LinkLaws.{linked_more}
use Rattle.surf_disc.proofs.fans.link_corners.Goals as goal

pub bounds-tails-index : goal.bounds-tails-index
bounds-tails-index c = omega (
  arith,
  c.loop-s-test.true,
  c.new-side.ensures,
  c.index.ensures,
  c.side_count-s-end.ensures.count,
  ap length c.corners-tails.ensures,
  corners_len c.args.corners.now.soup.now,
)

pub corner_across-over_this-requires-clause-across : goal.corner_across-over_this-requires-clause-across
corner_across-over_this-requires-clause-across c = across_inside c.args.corners.now.soup.now c.law_of_soup.ensures.mesh
    c.args.corners.now.next.now c.args.corners.now.prev.now c.args.corners.now.across.now c.args.corners.now.tables

pub corner_across-over_this-requires-clause-tails : goal.corner_across-over_this-requires-clause-tails
corner_across-over_this-requires-clause-tails c = ap length c.corners-tails.ensures ∙ corners_len c.args.corners.now.soup.now
    ∙ sym (turned_size after c.args.corners.now.soup.now c.args.corners.now.next.now c.args.corners.now.tables.nexts)

pub corner_across-over_that-requires-clause-side : goal.corner_across-over_that-requires-clause-side
corner_across-over_that-requires-clause-side c =
    let prev = c.args.corners.now.prev.now in
    let s = c.loop-s.s in
    let lt : s < side_count c.args.corners.now.soup.now = omega (arith, c.loop-s-test.true, c.side_count-s-end.ensures.count) in
    let in' : c.index-in-loop-s.result < length prev = omega (
      arith,
      lt,
      c.index-in-loop-s.ensures,
      c.new-side.ensures,
      turned_size before c.args.corners.now.soup.now prev c.args.corners.now.tables.prevs,
    ) in
    let at : c.index-prev-index.result ≡ get_or prev s 0 = get_or_read prev c.index-in-loop-s.result
    c.index-prev-index.result in' c.index-prev-index.is 0
    ∙ ap (λ i. get_or prev i 0) (c.index-in-loop-s.ensures ∙ c.new-side.ensures) in
    omega (
      arith,
      at,
      prev_in c.args.corners.now.soup.now c.law_of_soup.ensures.mesh c.args.corners.now.next.now c.args.corners.now.prev.now
          c.args.corners.now.across.now c.args.corners.now.tables s lt,
      c.args.corners.now.tables.acrosses.size,
    )

pub corner_across-over_that-requires-clause-across : goal.corner_across-over_that-requires-clause-across
corner_across-over_that-requires-clause-across c = across_inside c.args.corners.now.soup.now c.law_of_soup.ensures.mesh
    c.args.corners.now.next.now c.args.corners.now.prev.now c.args.corners.now.across.now c.args.corners.now.tables

pub corner_across-over_that-requires-clause-tails : goal.corner_across-over_that-requires-clause-tails
corner_across-over_that-requires-clause-tails c = ap length c.corners-tails.ensures ∙ corners_len c.args.corners.now.soup.now
    ∙ sym (turned_size after c.args.corners.now.soup.now c.args.corners.now.next.now c.args.corners.now.tables.nexts)

pub loop-s-preserved : goal.loop-s-preserved
loop-s-preserved c =
    let next = c.args.corners.now.next.now in
    let prev = c.args.corners.now.prev.now in
    let across = c.args.corners.now.across.now in
    let s = c.loop-s.s in
    let tails = all_corners c.args.corners.now.soup.now in
    let read = c.corners-tails.result.now in
    let same : read ≡ tails = c.corners-tails.ensures in
    let a = c.corner_across-over_this.result in
    let b = c.corner_across-over_that.result in
    let lt : s < side_count c.args.corners.now.soup.now = omega (arith, c.loop-s-test.true, c.side_count-s-end.ensures.count) in
    let here : c.index.result ≡ s = c.index.ensures ∙ c.new-side.ensures in
    let v : c.index-tails-index.result ≡ get_or read s 0 = get_or_read read c.index.result c.index-tails-index.result
    (omega (arith, lt, here, ap length same, corners_len c.args.corners.now.soup.now)) c.index-tails-index.is 0
    ∙ ap (λ i. get_or read i 0) here in
    let at : c.index-in-loop-s.result ≡ s = c.index-in-loop-s.ensures ∙ c.new-side.ensures in
    let p : c.index-prev-index.result ≡ get_or prev s 0 = get_or_read prev c.index-in-loop-s.result
    c.index-prev-index.result
    (omega (arith, lt, at, turned_size before c.args.corners.now.soup.now prev c.args.corners.now.tables.prevs)) c.index-prev-index.is 0
    ∙ ap (λ i. get_or prev i 0) at in
    let this : a ≡ over_corner next across tails s (get_or tails s 0) = c.corner_across-over_this.ensures.corner
    ∙ ap (λ t. over_corner next across read t c.index-tails-index.result) c.new-side.ensures
    ∙ ap (over_corner next across read s) v
    ∙ ap (λ (xs : List ℕ). over_corner next across xs s (get_or xs s 0)) same in
    let that : b ≡ over_corner next across tails (get_or prev s 0)
    (get_or tails s 0) = c.corner_across-over_that.ensures.corner
    ∙ ap (λ t. over_corner next across read t c.index-tails-index.result) p
    ∙ ap (over_corner next across read (get_or prev s 0)) v
    ∙ ap (λ (xs : List ℕ). over_corner next across xs (get_or prev s 0) (get_or xs s 0)) same in
    let P : List (List ℕ) → Type 0 = λ rows. AreLinked next prev across tails (s + 1) rows in
    subst P (sym c.in_ok-push.ensures.ok) (rw (c.number.ensures, c.number-in-loop-s.ensures)
    (linked_more next prev across tails s a b c.loop-s.rows c.loop-s.invariant this that))
