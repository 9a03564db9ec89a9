use Rattle.surf_surfaces.proofs.Common.{◌≡◌, ◌<◌, ◌-◌, ℕ, List, length, get_or, replicate, set, sym, ap, subst, ◌∙◌, arith, rules, length-replicate, get_or-replicate, side_count}
use Rattle.surf_soup.specs.Vertices.{all_corners}
use Rattle.surf_soup.specs.First.{AreFirstFrom}
use Rattle.surf_soup.proofs.VertexLaws.{corner_read, corners_len, corners_below}
use Rattle.surf_soup.proofs.FirstLaws.{first_none, first_more}
use Rattle.surf_soup.proofs.vertices.first_sides.Goals as goal

pub loop-s-init : goal.loop-s-init
loop-s-init c =
    let mesh = c.args.soup.now in
    let n = c.vertices.result in
    let items = c.in_ok-first.first.items in
    let is : items ≡ replicate n c.new-none.result = search rules in
    let size : length items ≡ mesh.vertices =
    omega (arith, ap length is, length-replicate n c.new-none.result, c.vertices.ensures.count) in
    let none : (v : ℕ) → v < mesh.vertices → get_or items v 0 ≡ side_count mesh =
    λ v lt. ap (λ (xs : List ℕ). get_or xs v 0) is
    ∙ get_or-replicate n v c.new-none.result 0 (omega (arith, c.vertices.ensures.count)) ∙ c.new-none.ensures
    ∙ c.side_count.ensures.count in
    let P : ℕ → Type 0 = λ m. AreFirstFrom mesh m items in
    subst P (sym (ap length c.corners-corners.ensures ∙ corners_len mesh)) (first_none mesh items size none)

pub overflow_cast-s : goal.overflow_cast-s
overflow_cast-s c = omega (
  arith,
  c.loop-s-test.true,
  c.loop-s.auto.s,
  ap length c.corners-corners.ensures,
  corners_len c.args.soup.now,
  c.law_of_soup.ensures.few,
)

pub index_mut-requires : goal.index_mut-requires
index_mut-requires c =
    let mesh = c.args.soup.now in
    let s = c.loop-s.s - 1 in
    let corners = c.corners-corners.result.now in
    let n : length corners ≡ side_count mesh = ap length c.corners-corners.ensures ∙ corners_len mesh in
    let lt : s < length corners = omega (arith, c.loop-s-test.true, c.loop-s.auto.s) in
    let at = corner_read mesh corners s c.index-corners-s.result c.corners-corners.ensures (omega (arith, lt, n))
    c.index-corners-s.is in
    let below = corners_below mesh c.law_of_soup.ensures.mesh s 0 (omega (arith, lt, n, corners_len mesh)) in
    omega (arith, at, below, c.index.ensures, c.index-corners-s.is, c.loop-s.invariant.size)

pub loop-s-preserved : goal.loop-s-preserved
loop-s-preserved c =
    let mesh = c.args.soup.now in
    let s = c.loop-s.s - 1 in
    let corners = c.corners-corners.result.now in
    let n : length corners ≡ side_count mesh = ap length c.corners-corners.ensures ∙ corners_len mesh in
    let lt : s < length corners = omega (arith, c.loop-s-test.true, c.loop-s.auto.s) in
    let at = corner_read mesh corners s c.index-corners-s.result c.corners-corners.ensures (omega (arith, lt, n))
    c.index-corners-s.is in
    let v : c.index.result ≡ get_or (all_corners mesh) s 0 = c.index.ensures ∙ at in
    let P : ℕ → Type 0 = λ u. AreFirstFrom mesh s (set c.loop-s.first.items u c.new.result) in
    let Q : ℕ → Type 0 = λ t. AreFirstFrom mesh s (set c.loop-s.first.items (get_or (all_corners mesh) s 0) t) in
    subst P (sym v) (subst Q (sym c.new.ensures)
    (first_more mesh c.loop-s.s s c.loop-s.first.items c.loop-s.invariant (omega (arith, c.loop-s-test.true))
    (omega (arith, lt, n))))
