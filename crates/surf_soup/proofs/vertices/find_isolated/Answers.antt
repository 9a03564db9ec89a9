use Rattle.surf_surfaces.proofs.Common.{◌≡◌, ◌<◌, ◌∙◌, get_or, ap, sym, arith, inl, inr, get_or_read, cases_eq, eq-eqb, eqb-true, true≢false, side_count}
use Rattle.surf_soup.proofs.FirstLaws.{first_met, first_unmet}
use Rattle.surf_soup.proofs.vertices.find_isolated.Goals as goal

pub returns-then-eq : goal.returns-then-eq
returns-then-eq c =
    let mesh = c.args.soup.now in
    let first = c.args.first.now in
    let v = c.loop-v.v in
    let lt : v < mesh.vertices = omega (arith, c.loop-v-test.true, c.vertices-v-end.ensures.count) in
    let at = get_or_read first v c.index-first-v.result (omega (arith, lt, c.requires.size)) c.index-first-v.is 0 in
    let none : get_or first v 0 ≡ side_count mesh =
    omega (
      arith,
      at,
      c.index-first-v.is,
      eqb-true _ _ (sym c.if-eq.ensures),
      c.new-none.ensures,
      c.side_count.ensures.count,
    ) in
    rw c.new.ensures record {
      is_vertex = lt;
      no_face = first_unmet mesh first c.requires v lt none;
      met_before = c.loop-v.invariant;
    }

pub loop-v-preserved : goal.loop-v-preserved
loop-v-preserved c = λ u below.
    let mesh = c.args.soup.now in
    let first = c.args.first.now in
    let v = c.loop-v.v in
    let in' : v < mesh.vertices = omega (arith, c.loop-v-test.true, c.vertices-v-end.ensures.count) in
    let at = get_or_read first v c.index-first-v.result (omega (arith, in', c.requires.size)) c.index-first-v.is 0 in
    elim (cases_eq u v) [
      | inl e ↦
          let lt : u < mesh.vertices = omega (arith, in') in
          first_met mesh first c.requires u lt
          (λ none. true≢false (sym (c.if-eq.ensures ∙ eq-eqb _ _ (omega (
            arith,
            at,
            ap (λ w. get_or first w 0) e,
            none,
            c.index-first-v.is,
            c.new-none.ensures,
            c.side_count.ensures.count,
          )))))
      | inr ne ↦ c.loop-v.invariant u (omega arith)
    ]
