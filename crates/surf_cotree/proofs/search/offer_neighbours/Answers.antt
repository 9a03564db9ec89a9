use Rattle.surf_cotree.proofs.Common.{◌≡◌, ◌<◌, ◌≤◌, ◌+◌, ◌-◌, ◌∙◌, ◌&&◌, not, true, false, length, arith, sym, subst, and_parts, false≢true, not-true, dual, cells_of, face_count, edge_count, link_at, IsRow, nobody, outside}
use Rattle.surf_cotree.proofs.Pairs.{link_in, link_more, link_skip, offered_all}
use Rattle.surf_cotree.proofs.Passing.{links, links_many, links_row, link_is}
use Rattle.surf_cotree.proofs.search.offer_neighbours.Given.{Over}
use Rattle.surf_cotree.proofs.search.offer_neighbours.Goals as goal
use Rattle.surf_cotree.proofs.search.offer_neighbours.Goals.{then-leads_on, else-leads_on, After-across-next}

-- the row of the face
its_row : (gen : Over) (c : After-across-next gen) → IsRow (dual (cells_of c.args.network.now.mesh.now)) c.args.face (links c.args.network.now.mesh.now c.side_span-start.result.0 c.side_span-start.result.1)
its_row gen c =
    let mesh = c.args.network.now.mesh.now in
    let row = links_row mesh c.law_of_surface.ensures.surface c.new.result c.side_span-start.result.0 c.side_span-start.result.1 (omega (arith, c.requires.face, c.new.ensures)) c.side_span-start.ensures.start c.side_span-start.ensures.end in
    subst (λ f. IsRow (dual (cells_of mesh)) f (links mesh c.side_span-start.result.0 c.side_span-start.result.1)) c.new.ensures row

-- the link of the side
its_link : (gen : Over) (c : After-across-next gen) → link_at (links c.args.network.now.mesh.now c.side_span-start.result.0 c.side_span-start.result.1) (c.loop-s.s - c.side_span-start.result.0) ≡ c.across-next.result
its_link gen c = link_is c.args.network.now.mesh.now c.side_span-start.result.0 c.side_span-start.result.1 c.loop-s.s c.new-in-loop-s.result c.loop-s.invariant.from c.loop-s-test.true c.new-in-loop-s.ensures ∙ sym c.across-next.ensures.link

-- it leads to a face, over an edge
its_ends : (gen : Over) (c : After-across-next gen) → (c.across-next.result.0 < face_count c.args.network.now.mesh.now) × (c.across-next.result.1 < edge_count c.args.network.now.mesh.now)
its_ends gen c =
    let mesh = c.args.network.now.mesh.now in
    let start = c.side_span-start.result.0 in
    let end = c.side_span-start.result.1 in
    let long = links_many mesh start end in
    link_in (dual (cells_of mesh)) (outside c.args.network.now.marks.now) (gen.W.Weights.weight c.args.weight.now) (gen.R.Reached.reaches c.args.there.now) c.args.face (links mesh start end) (its_row gen c) c.args.heap.now c.loop-s.heap (c.loop-s.s - start) c.loop-s.invariant.some
    (omega (arith, long, c.loop-s.invariant.from, c.loop-s-test.true)) c.across-next.result (its_link gen c)

pub leads_on-requires-clause-edge : goal.leads_on-requires-clause-edge
leads_on-requires-clause-edge gen c = let l = (its_ends gen (goal.at.leads_on-requires-clause-edge gen c).After-across-next).1 in omega (arith, l, c.args.network.now.fit)

pub leads_on-requires-clause-face : goal.leads_on-requires-clause-face
leads_on-requires-clause-face gen c = let l = (its_ends gen (goal.at.leads_on-requires-clause-face gen c).After-across-next).0 in omega (arith, l, c.requires.faces)

pub offer_by-requires-clause-edge : goal.offer_by-requires-clause-edge
offer_by-requires-clause-edge gen c = let l = (its_ends gen (goal.at.offer_by-requires-clause-edge gen c).After-across-next).1 in omega (arith, l, c.requires.weights)

pub offer_by-requires-clause-face : goal.offer_by-requires-clause-face
offer_by-requires-clause-face gen c = let l = (its_ends gen (goal.at.offer_by-requires-clause-face gen c).After-across-next).0 in omega (arith, l, c.requires.places, c.loop-s.invariant.some.same_length)

pub loop-s-preserved : goal.loop-s-preserved
loop-s-preserved gen c =
    let i = (goal.at.loop-s-preserved gen c).After-across-next in
    let mesh = c.args.network.now.mesh.now in
    let g = dual (cells_of mesh) in
    let allowed = outside c.args.network.now.marks.now in
    let weight = gen.W.Weights.weight c.args.weight.now in
    let there = gen.R.Reached.reaches c.args.there.now in
    let start = c.side_span-start.result.0 in
    let end = c.side_span-start.result.1 in
    let n = c.loop-s.s - start in
    let p = c.across-next.result in
    let from = c.loop-s.invariant.from in
    let some = c.loop-s.invariant.some in
    let long = links_many mesh start end in
    let ln : n < length (links mesh start end) = omega (arith, long, from, c.loop-s-test.true) in
    let row = its_row gen i in
    let is = its_link gen i in
    let next : n + 1 ≡ c.loop-s.s + 1 - start = omega (arith, from) in
    let w_in : p.0 < g.nodes = (its_ends gen i).0 in
    let in_heap : p.0 < length c.loop-s.heap = omega (arith, some.same_length, c.requires.places) in
    elim c.if-leads_on.branch [
      | then-leads_on b ↦
          let open_is : (allowed p.1 && not (there p.0)) ≡ true = sym c.leads_on.ensures.leads ∙ b.if-leads_on.true in
          let both : (allowed p.1 ≡ true) × (not (there p.0) ≡ true) = and_parts (allowed p.1) (not (there p.0)) open_is in
          let few : g.edges ≤ nobody = omega (arith, c.law_of_surface.ensures.edges) in
          rw (b.heap-is, sym next) (record {
            from = omega (arith, from);
            some = link_more g allowed weight there c.args.face (links mesh start end) row c.args.heap.now c.loop-s.heap n some ln p is b.offer_by.new.heap both.0 (not-true (there p.0) both.1) in_heap (gen.met.W.Weights.light c.args.weight.now p.1) few b.offer_by.ensures.entry;
          })
      | else-leads_on b ↦
          let shut : (allowed p.1 && not (there p.0)) ≡ false = sym c.leads_on.ensures.leads ∙ b.if-leads_on.false in
          rw (b.heap-is, sym next) (record {
            from = omega (arith, from);
            some = link_skip g allowed weight there c.args.face (links mesh start end) row c.args.heap.now c.loop-s.heap n some ln p is (λ a f. false≢true (sym shut ∙ rw (a, f)));
          })
    ]

pub returns : goal.returns
returns gen c =
    let mesh = c.args.network.now.mesh.now in
    let start = c.side_span-start.result.0 in
    let end = c.side_span-start.result.1 in
    let long = links_many mesh start end in
    let row = subst (λ f. IsRow (dual (cells_of mesh)) f (links mesh start end)) c.new.ensures
    (links_row mesh c.law_of_surface.ensures.surface c.new.result start end (omega (arith, c.requires.face, c.new.ensures)) c.side_span-start.ensures.start c.side_span-start.ensures.end) in
    record {
      offered = offered_all (dual (cells_of mesh)) (outside c.args.network.now.marks.now) (gen.W.Weights.weight c.args.weight.now) (gen.R.Reached.reaches c.args.there.now) c.args.face (links mesh start end)
          row c.args.heap.now c.loop-s.heap (c.loop-s.s - start) (omega (arith, long, c.loop-s.invariant.from, c.loop-s-test.false)) c.loop-s.invariant.some;
    }
