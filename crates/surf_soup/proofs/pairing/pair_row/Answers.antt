use Rattle.surf_surfaces.proofs.Common.{◌≡◌, ◌*◌, ◌/◌, ◌%◌, ℕ, List, get_or, length, subst, sym, refl, arith, inl, inr, cases_eq, eq-eqb, ne_eqb, true≢false}
use Rattle.surf_soup.specs.Order.{IsLast}
use Rattle.surf_soup.proofs.PairFails.{first_inside, second_inside, edges_below, pairs_next, pair_differs, pair_crowded, row_paired, row_odd, differ_told, same_told}
use Rattle.surf_soup.proofs.pairing.pair_row.Goals as goal
use Rattle.surf_soup.proofs.pairing.pair_row.Goals.{then-ne-via-then-ne, then-ne-via-else-ne+then-is_last}

pub returns-then-ne : goal.returns-then-ne
returns-then-ne c = elim c.then-ne.branch [
  | then-ne-via-then-ne w ↦ pair_differs c.law_of_entries.ensures.mesh c.law_of_entries.ensures.entries c.requires.vertex
      c.row-row.ensures c.new-low.ensures c.loop-k.invariant c.loop-k-test.true c.index-row-k.result
      c.index-row-k-in-loop-k-2.result (differ_told _ _ w.if-ne.ensures)
  | then-ne-via-else-ne+then-is_last w ↦ pair_crowded c.law_of_entries.ensures.mesh c.law_of_entries.ensures.entries
      c.requires.vertex c.row-row.ensures c.new-low.ensures c.loop-k.invariant c.loop-k-test.true c.index-row-k.result
      (subst (λ (es : List (ℕ × ℕ)). IsLast es (
        c.new-low.result,
        (get_or c.row-row.result.now (2 * c.loop-k.k) c.index-row-k.result).0,
      )) w.deref.ensures.value (w.if-is_last.ensures.0 refl))
]

pub join_sides-requires-clause-first : goal.join_sides-requires-clause-first
join_sides-requires-clause-first c =
    omega (
      arith,
      c.loop-k.invariant.mate_size,
      first_inside c.law_of_entries.ensures.mesh c.law_of_entries.ensures.entries c.requires.vertex c.row-row.ensures
          c.new-low.ensures c.loop-k.invariant c.loop-k-test.true c.index-row-k-in-loop-k.result,
    )

pub join_sides-requires-clause-second : goal.join_sides-requires-clause-second
join_sides-requires-clause-second c =
    omega (
      arith,
      c.loop-k.invariant.mate_size,
      second_inside c.law_of_entries.ensures.mesh c.law_of_entries.ensures.entries c.requires.vertex c.row-row.ensures
          c.new-low.ensures c.loop-k.invariant c.loop-k-test.true c.index-row-k-in-loop-k-3.result,
    )

pub join_sides-requires-clause-few : goal.join_sides-requires-clause-few
join_sides-requires-clause-few c =
    omega (
      arith,
      c.law_of_entries.ensures.few,
      edges_below c.law_of_entries.ensures.mesh c.law_of_entries.ensures.entries c.requires.vertex c.row-row.ensures
          c.new-low.ensures c.loop-k.invariant c.loop-k-test.true,
    )

pub loop-k-preserved : goal.loop-k-preserved
loop-k-preserved c =
    let made = c.in_ok-join_sides.ensures in
    let next = pairs_next c.law_of_entries.ensures.mesh c.law_of_entries.ensures.entries c.requires.vertex c.row-row.ensures
    c.new-low.ensures c.loop-k.invariant c.loop-k-test.true c.index-row-k.result c.index-row-k-in-loop-k.result
    c.index-row-k-in-loop-k-2.result c.index-row-k-in-loop-k-3.result (same_told _ _ c.if-ne.ensures)
    (λ h. true≢false (sym (c.if-is_last.ensures.1 (subst (λ (es : List (ℕ × ℕ)). IsLast es (
      c.new-low.result,
      (get_or c.row-row.result.now (2 * c.loop-k.k) c.index-row-k.result).0,
    )) (sym c.deref.ensures.value) h)))) in
    rw (made.edges, made.firsts, made.mates, made.numbers) next

pub returns : goal.returns
returns c =
    let row = c.row-row.result.now in
    let end : c.loop-k.k ≡ length row / 2 = omega (arith, c.loop-k-test.false, c.loop-k.auto.k-end) in
    elim (cases_eq (length row % 2) 0) [
      | inl even ↦ rw (eq-eqb (length row % 2) 0 even) (row_paired c.law_of_entries.ensures.mesh c.law_of_entries.ensures.entries
          c.requires.vertex c.row-row.ensures c.new-low.ensures c.loop-k.invariant end even)
      | inr odd ↦ rw (ne_eqb (length row % 2) 0 odd) (row_odd c.law_of_entries.ensures.mesh c.law_of_entries.ensures.entries
          c.requires.vertex c.row-row.ensures c.new-low.ensures c.loop-k.invariant end odd)
    ]
