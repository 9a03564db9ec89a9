use Rattle.surf_search.proofs.Common.{◌≡◌, ◌<◌, ◌+◌, ◌++◌, ℕ, Bool, List, length, take, drop, sym, ap, ◌∙◌, subst, arith, inl, inr, IsTrue, slice_index, cases_lt, get_or_default, shortest_trees, surface_of, is_among, is_marked, IsBarring, IsFirstIn}
use Rattle.surf_finder.proofs.Marked.{written_back}
use Rattle.surf_finder.proofs.PassedOver.{among_marked}
use Rattle.surf_search.proofs.FirstFound.{first_fewer}
use Rattle.surf_search.proofs.first_loops.first_passed.Goals as goal

pub visit_first-requires-clause-first : goal.visit_first-requires-clause-first
visit_first-requires-clause-first c =
    let s = c.args.surface.now in
    subst (λ (ms : List Bool). IsFirstIn s.mesh.now s.lengths.now s.signatures.now (is_marked ms) c.loop-v.first)
    (sym c.deref_mut.ensures.value) c.loop-v.invariant.first

pub loop-v-preserved : goal.loop-v-preserved
loop-v-preserved c =
    let s = c.args.surface.now in
    let f = surface_of s in
    let vs = c.args.vertices.now in
    let marks = c.visit_first.new.marks in
    let next = c.in_ok-next.next in
    let rest = drop (length marks) c.loop-v.marks.items in
    let here = c.visit_first.ensures.barring.count in
    let before = c.loop-v.invariant.barring.count in
    let written : take c.loop-v.marks.len (marks ++ rest) ≡ marks =
    written_back marks rest c.loop-v.marks.len (let value = ap (λ (ms : List Bool). length ms) c.deref_mut.ensures.value in
    omega (arith, here, before, value, c.deref_mut.ensures.len)) in
    let all : (i : ℕ) → i < c.loop-v.v-index + 1 → IsTrue (is_marked marks (slice_index vs i)) = λ i l.
    elim (cases_lt i c.loop-v.v-index) [
      | inl less ↦ c.visit_first.ensures.stay (slice_index vs i) (subst (λ (ms : List Bool). IsTrue (is_marked ms (slice_index vs i)))
          (sym c.deref_mut.ensures.value) (c.loop-v.invariant.all i less))
      | inr more ↦
          let at : i ≡ c.loop-v.v-index = omega (arith, l, more) in
          let is : slice_index vs i ≡ c.v-item.result = ap (slice_index vs) at
          ∙ get_or_default vs c.loop-v.v-index 0 c.v-item.result c.loop-v-test.true ∙ sym c.v-item.is in
          subst (λ v. IsTrue (is_marked marks v)) (sym is) c.in_ok-next.ensures.marked
    ] in
    record {
      barring = subst (λ (ms : List Bool). IsBarring f c.visit_first.new.finder ms) (sym written) c.visit_first.ensures.barring;
      first = subst (λ (ms : List Bool). IsFirstIn s.mesh.now s.lengths.now s.signatures.now (is_marked ms) next) (sym written)
          c.in_ok-next.ensures.first;
      all = λ i l. subst (λ (ms : List Bool). IsTrue (is_marked ms (slice_index vs i))) (sym written) (all i l);
    }

pub returns : goal.returns
returns c =
    let f = surface_of c.args.surface.now in
    let surface = c.law_of_surface.ensures.surface in
    let positive = c.loop-v.invariant.barring.positive in
    let past = c.loop-v-test.false in
    record {
      first = λ trees chosen d split are.
          first_fewer f.mesh f.lengths (λ x. (trees x).tree) surface positive (shortest_trees f.mesh f.lengths surface positive trees chosen)
          d split (is_marked c.loop-v.marks.items) (is_among c.args.vertices.now) c.loop-v.first
          (λ v among. among_marked c.loop-v.marks.items c.args.vertices.now (λ i l. c.loop-v.invariant.all i (omega (arith, l, past))) v among)
          (c.loop-v.invariant.first trees chosen d split are);
    }
