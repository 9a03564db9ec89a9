use Rattle.surf_surfaces.proofs.Common.{◌<◌, ℕ, List, length, sym, ap, subst, ◌∙◌, arith, All, range_with_len, All-from_recursion, length-range_with_len, side_count}
use Rattle.surf_soup.specs.Vertices.{all_corners}
use Rattle.surf_soup.proofs.Order.{range_below}
use Rattle.surf_soup.proofs.VertexLaws.{corners_len, corners_below}
use Rattle.surf_soup.proofs.vertices.vertex_sides.Goals as goal

pub group_sides-requires-clause-few : goal.group_sides-requires-clause-few
group_sides-requires-clause-few c =
    omega (arith, ap length c.requires, length-range_with_len 0 (side_count c.args.soup.now), c.law_of_soup.ensures.few)

pub group_sides-requires-clause-sides : goal.group_sides-requires-clause-sides
group_sides-requires-clause-sides c = λ k d lt.
    let n = side_count c.args.soup.now in
    let P : List ℕ → Type 0 = All (λ s. s < n) in
    let b = subst P (sym c.requires)
    (All-from_recursion (λ s. s < n) (range_with_len 0 n) (range_below 0 n n (omega arith))) k d lt in
    omega (
      arith,
      b,
      ap length (c.deref.ensures.value ∙ c.in_ok-tails.ensures ∙ c.corners.ensures),
      corners_len c.args.soup.now,
    )

pub group_sides-requires-clause-keys : goal.group_sides-requires-clause-keys
group_sides-requires-clause-keys c =
    let mesh = c.args.soup.now in
    let P : List ℕ → Type 0 = All (λ v. v < c.vertices-count.result) in
    let Q : ℕ → Type 0 = λ n. All (λ v. v < n) (all_corners mesh) in
    subst P (sym (c.deref.ensures.value ∙ c.in_ok-tails.ensures ∙ c.corners.ensures))
    (subst Q (sym c.vertices-count.ensures.count) (corners_below mesh c.vertices-count.ensures.mesh))
