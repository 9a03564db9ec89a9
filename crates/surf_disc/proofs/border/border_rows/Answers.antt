use Rattle.surf_surfaces.proofs.Common.{◌≡◌, ◌<◌, ◌+◌, ◌++◌, ◌∷◌, [], ℕ, List, length, sym, ap, subst, ◌∙◌, arith, flat_map, sum_by, get_or_default, after, before, side_count, sum_by_push}
use Rattle.surf_soup.specs.Vertices.{all_corners, sides_at}
use Rattle.surf_soup.proofs.TurnedSides.{turned_size}
use Rattle.surf_soup.proofs.VertexLaws.{at_len, at_is, corners_len}
use Rattle.surf_disc.specs.Border.{border_ends, AreNeighbours}
use Rattle.surf_disc.proofs.CornerLaws.{next_in, prev_in}
use Rattle.surf_disc.proofs.FanLaws.{row_inside}
use Rattle.surf_disc.proofs.LinkLaws.{at_vertex_total}
use Rattle.surf_disc.proofs.BorderLaws.{near_more, near_total}
use Rattle.surf_disc.proofs.border.border_rows.Goals as goal

pub row-requires : goal.row-requires
row-requires c = omega (
  arith,
  at_len c.args.corners.now.soup.now c.args.corners.now.at_vertex.now c.args.corners.now.rows,
  c.loop-v-test.true,
  c.vertices-v-end.ensures.count,
)

pub list_ends-requires-clause-corners : goal.list_ends-requires-clause-corners
list_ends-requires-clause-corners c = λ k d in'.
    let mesh = c.args.corners.now.soup.now in
    let v = c.loop-v.v in
    let lt : v < mesh.vertices = omega (arith, c.loop-v-test.true, c.vertices-v-end.ensures.count) in
    let row = c.row.result.now in
    let is : row ≡ sides_at mesh v = c.row.ensures ∙ at_is mesh c.args.corners.now.at_vertex.now c.args.corners.now.rows v lt in
    let n = turned_size after mesh c.args.corners.now.next.now c.args.corners.now.tables.nexts in
    omega (arith, get_or_default row k d 0 in', row_inside mesh v k (length c.args.corners.now.next.now) row is in' (omega arith))

pub list_ends-requires-clause-nexts : goal.list_ends-requires-clause-nexts
list_ends-requires-clause-nexts c = λ k d in'.
    let mesh = c.args.corners.now.soup.now in
    let n = turned_size after mesh c.args.corners.now.next.now c.args.corners.now.tables.nexts in
    let lt : k < side_count mesh = omega arith in
    omega (
      arith,
      get_or_default c.args.corners.now.next.now k d 0 in',
      next_in mesh c.law_of_soup.ensures.mesh c.args.corners.now.next.now c.args.corners.now.prev.now c.args.corners.now.across.now c.args.corners.now.tables k lt,
    )

pub list_ends-requires-clause-prevs : goal.list_ends-requires-clause-prevs
list_ends-requires-clause-prevs c = λ k d in'.
    let mesh = c.args.corners.now.soup.now in
    let n = turned_size after mesh c.args.corners.now.next.now c.args.corners.now.tables.nexts in
    let p = turned_size before mesh c.args.corners.now.prev.now c.args.corners.now.tables.prevs in
    let lt : k < side_count mesh = omega arith in
    omega (
      arith,
      get_or_default c.args.corners.now.prev.now k d 0 in',
      prev_in mesh c.law_of_soup.ensures.mesh c.args.corners.now.next.now c.args.corners.now.prev.now c.args.corners.now.across.now c.args.corners.now.tables k lt,
    )

pub list_ends-requires-clause-tails_size : goal.list_ends-requires-clause-tails_size
list_ends-requires-clause-tails_size c = ap length c.corners-tails.ensures ∙ corners_len c.args.corners.now.soup.now
    ∙ sym (turned_size after c.args.corners.now.soup.now c.args.corners.now.next.now c.args.corners.now.tables.nexts)

pub push-requires : goal.push-requires
push-requires c =
    let mesh = c.args.corners.now.soup.now in
    let v = c.loop-v.v in
    let in' : v < length c.args.corners.now.at_vertex.now = omega
    (arith, at_len mesh c.args.corners.now.at_vertex.now c.args.corners.now.rows, c.loop-v-test.true, c.vertices-v-end.ensures.count) in
    let t = near_total c.args.corners.now.next.now c.args.corners.now.prev.now c.args.corners.now.across.now c.corners-tails.result.now v c.loop-v.rows
    c.args.corners.now.at_vertex.now c.deref.result.now c.row.result.now c.loop-v.invariant.total in' c.row.ensures
    (c.deref.ensures.value ∙ c.in_ok-list_ends.ensures.ends) in
    omega (
      arith,
      t.0,
      t.1,
      at_vertex_total mesh c.args.corners.now.at_vertex.now c.args.corners.now.rows,
      c.law_of_soup.ensures.few,
    )

pub loop-v-preserved : goal.loop-v-preserved
loop-v-preserved c =
    let mesh = c.args.corners.now.soup.now in
    let v = c.loop-v.v in
    let next = c.args.corners.now.next.now in
    let prev = c.args.corners.now.prev.now in
    let across = c.args.corners.now.across.now in
    let tails = c.corners-tails.result.now in
    let row = c.deref.result.now in
    let corners = c.row.result.now in
    let lt : v < mesh.vertices = omega (arith, c.loop-v-test.true, c.vertices-v-end.ensures.count) in
    let in' : v < length c.args.corners.now.at_vertex.now = omega (arith, at_len mesh c.args.corners.now.at_vertex.now c.args.corners.now.rows, lt) in
    let is : row ≡ flat_map (border_ends next prev across tails) corners = c.deref.ensures.value
    ∙ c.in_ok-list_ends.ensures.ends in
    let own : row ≡ flat_map (border_ends next prev across (all_corners mesh)) corners = is
    ∙ ap (λ (xs : List ℕ). flat_map (border_ends next prev across xs) corners) c.corners-tails.ensures in
    let at : corners ≡ sides_at mesh v = c.row.ensures ∙ at_is mesh c.args.corners.now.at_vertex.now c.args.corners.now.rows v lt in
    let pushed : c.push.new.self ≡ c.loop-v.rows ++ row ∷ [] = c.in_ok-push.ensures.ok in
    let t = near_total next prev across tails v c.loop-v.rows c.args.corners.now.at_vertex.now row corners
    c.loop-v.invariant.total in' c.row.ensures is in
    let N : List (List ℕ) → Type 0 = λ rows. AreNeighbours mesh next prev across (all_corners mesh) (v + 1) rows in
    record {
      rows = subst N (sym pushed) (near_more mesh next prev across
          (all_corners mesh) v c.loop-v.rows row corners c.loop-v.invariant.rows at own);
      total = omega (arith, t.0, ap (sum_by length) pushed, sum_by_push {X = List ℕ} length c.loop-v.rows row);
    }
