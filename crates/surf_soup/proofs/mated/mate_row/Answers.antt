use Rattle.surf_surfaces.proofs.Common.{◌≡◌, ◌+◌, ◌*◌, ◌/◌, ◌%◌, ◌∷◌, ◌++◌, [], ℕ, Some, true, get_or, length, set, take, sym, refl, arith, inl, inr, sum_by, cases_eq, eq-eqb, ne_eqb, true≢false}
use Rattle.surf_soup.specs.Pairing.{AreMatedUpto}
use Rattle.surf_soup.proofs.MatedSteps.{ends_with_push, greater_push}
use Rattle.surf_soup.proofs.PairFails.{first_inside, high_inside, second_inside, pairs_next, pair_differs, pair_crowded, row_paired, row_odd, differ_told, same_told}
use Rattle.surf_soup.proofs.mated.mate_row.Goals as goal
use Rattle.surf_soup.proofs.mated.mate_row.Goals.{then-ne-via-then-ne, then-ne-via-else-ne+then-is_last_pair}

pub returns-then-ne : goal.returns-then-ne
returns-then-ne c = elim c.then-ne.branch [
  | then-ne-via-then-ne w ↦ pair_differs c.law_of_entries.ensures.mesh c.law_of_entries.ensures.entries c.requires.vertex
      c.row-row.ensures c.new-low.ensures c.loop-k.invariant.paired c.loop-k-test.true c.index-row-k.result
      c.index-row-k-in-loop-k-2.result (differ_told _ _ w.if-ne.ensures)
  | then-ne-via-else-ne+then-is_last_pair w ↦ pair_crowded c.law_of_entries.ensures.mesh c.law_of_entries.ensures.entries
      c.requires.vertex c.row-row.ensures c.new-low.ensures c.loop-k.invariant.paired c.loop-k-test.true
      c.index-row-k.result ((c.loop-k.invariant.last_is _).1 (w.if-is_last_pair.ensures.0 refl))
]

pub join_mates-requires-clause-first : goal.join_mates-requires-clause-first
join_mates-requires-clause-first c =
    omega (
      arith,
      c.loop-k.invariant.paired.mate_size,
      first_inside c.law_of_entries.ensures.mesh c.law_of_entries.ensures.entries c.requires.vertex c.row-row.ensures
          c.new-low.ensures c.loop-k.invariant.paired c.loop-k-test.true c.index-row-k-in-loop-k.result,
    )

pub join_mates-requires-clause-second : goal.join_mates-requires-clause-second
join_mates-requires-clause-second c =
    omega (
      arith,
      c.loop-k.invariant.paired.mate_size,
      second_inside c.law_of_entries.ensures.mesh c.law_of_entries.ensures.entries c.requires.vertex c.row-row.ensures
          c.new-low.ensures c.loop-k.invariant.paired c.loop-k-test.true c.index-row-k-in-loop-k-3.result,
    )

pub join_mates-requires-clause-high : goal.join_mates-requires-clause-high
join_mates-requires-clause-high c =
    omega (
      arith,
      c.loop-k.invariant.greater.size,
      high_inside c.law_of_entries.ensures.mesh c.law_of_entries.ensures.entries c.requires.vertex c.row-row.ensures
          c.new-low.ensures c.loop-k.invariant.paired c.loop-k-test.true c.index-row-k.result,
    )

pub loop-k-preserved : goal.loop-k-preserved
loop-k-preserved c =
    let so_far = c.loop-k.invariant in
    let made = c.join_mates.ensures in
    let row = c.row-row.result.now in
    let k = c.loop-k.k in
    let mate = c.loop-k.mates.mate.items in
    let high = (get_or row (2 * k) c.index-row-k.result).0 in
    let p : ℕ × ℕ = (c.new-low.result, high) in
    let s = (get_or row (2 * k) c.index-row-k-in-loop-k.result).1 in
    let t = (get_or row (2 * k + 1) c.index-row-k-in-loop-k-3.result).1 in
    let n = length so_far.edge_list in
    let next = pairs_next c.law_of_entries.ensures.mesh c.law_of_entries.ensures.entries c.requires.vertex c.row-row.ensures
    c.new-low.ensures so_far.paired c.loop-k-test.true c.index-row-k.result c.index-row-k-in-loop-k.result
    c.index-row-k-in-loop-k-2.result c.index-row-k-in-loop-k-3.result (same_told _ _ c.if-ne.ensures)
    (λ h. true≢false (sym (c.if-is_last_pair.ensures.1 ((so_far.last_is p).0 h)))) in
    let after : AreMatedUpto c.args.entries.now.mesh (sum_by length (take c.args.vertex c.args.entries.now.rows) + 2 * (k + 1))
    (set (set mate s t) t s) (Some p) (set c.loop-k.mates.greater.items high true) = record {
      edge_list = so_far.edge_list ++ p ∷ [];
      first = so_far.first ++ s ∷ [];
      edge_of = set (set so_far.edge_of s n) t n;
      paired = next;
      last_is = ends_with_push so_far.edge_list p;
      greater = greater_push c.args.entries.now.mesh.vertices so_far.edge_list c.loop-k.mates.greater.items p so_far.greater
          (high_inside c.law_of_entries.ensures.mesh c.law_of_entries.ensures.entries c.requires.vertex c.row-row.ensures
          c.new-low.ensures so_far.paired c.loop-k-test.true c.index-row-k.result);
    } in
    rw (made.mates, made.last, made.greater) after

pub returns : goal.returns
returns c =
    let so_far = c.loop-k.invariant in
    let mesh = c.args.entries.now.mesh in
    let row = c.row-row.result.now in
    let mate = c.loop-k.mates.mate.items in
    let end : c.loop-k.k ≡ length row / 2 = omega (arith, c.loop-k-test.false, c.loop-k.auto.k-end) in
    elim (cases_eq (length row % 2) 0) [
      | inl even ↦
          let whole : AreMatedUpto mesh (sum_by length (take (c.args.vertex + 1) c.args.entries.now.rows)) mate
          c.loop-k.mates.last c.loop-k.mates.greater.items = record {
            edge_list = so_far.edge_list;
            first = so_far.first;
            edge_of = so_far.edge_of;
            paired = row_paired c.law_of_entries.ensures.mesh c.law_of_entries.ensures.entries c.requires.vertex c.row-row.ensures
                c.new-low.ensures so_far.paired end even;
            last_is = so_far.last_is;
            greater = so_far.greater;
          } in
          rw (eq-eqb (length row % 2) 0 even) whole
      | inr odd ↦ rw (ne_eqb (length row % 2) 0 odd) (row_odd c.law_of_entries.ensures.mesh c.law_of_entries.ensures.entries
          c.requires.vertex c.row-row.ensures c.new-low.ensures so_far.paired end odd)
    ]
