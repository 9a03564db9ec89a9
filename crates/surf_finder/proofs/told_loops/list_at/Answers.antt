use Rattle.surf_finder.proofs.Common.{◌≡◌, ◌<◌, ◌≤◌, ◌+◌, ◌∙◌, IsTrue, List, Signed, slice_index, refl, sym, subst, arith, is_near, reached_at}
use Rattle.surf_finder.proofs.Rising.{low_is}
use Rattle.surf_finder.proofs.Told.{listed_more, listed_all, no_later_all}
use Rattle.surf_finder.proofs.told_loops.list_at.Goals as goal
use Rattle.surf_finder.proofs.told_loops.list_at.Goals.{then-may_matter+in_ok-add_loop, else-may_matter}

pub may_matter-requires-clause-low : goal.may_matter-requires-clause-low
may_matter-requires-clause-low c =
    let r = c.args.reached.now in
    let low : c.rise_of-rise.result.low ≡ c.args.v = low_is r.surface.now.mesh.now r.rises.now c.args.v c.loop-e.e c.at-start.result.1
    c.rise_of-rise.result c.requires.searched.starts c.requires.vertex.0 c.loop-e.invariant.from c.loop-e-test.true c.at-start.ensures.past
    c.rise_of-rise.ensures.rise (c.rise_of-rise.ensures.edge ∙ c.new.ensures) in
    subst (λ n. (n < r.surface.now.mesh.now.vertices) × IsTrue (is_near r.desk.now n)) (sym low) c.requires.vertex

pub loop-e-preserved : goal.loop-e-preserved
loop-e-preserved c =
    let h = c.loop-e.invariant in
    let from : slice_index c.args.reached.now.rises.now c.args.v ≤ c.loop-e.e + 1 = omega (arith, h.from) in
    let found = c.loop-e.found.items in
    let at : c.rise_of-rise.result.edge ≡ c.loop-e.e = c.rise_of-rise.ensures.edge ∙ c.new.ensures in
    let more = λ (new : List Signed). listed_more c.args.ties (reached_at c.args.reached.now) c.args.limit.now (slice_index c.args.reached.now.rises.now c.args.v) c.args.found.now.items
    found new c.loop-e.e c.rise_of-rise.result.edge h.to at in
    elim c.if-may_matter.branch [
      | then-may_matter+in_ok-add_loop w ↦
          let added = w.in_ok-add_loop.ensures in
          rw (w.keys-is, w.found-is) (record { from = from; listed = added.listed; to = more w.add_loop.new.found.items added.kept added.here })
      | else-may_matter w ↦
          rw (w.keys-is, w.found-is) (record {
            from = from;
            listed = h.listed;
            to = more found (no_later_all c.args.ties found)
                (λ on. absurd (c.may_matter.ensures.off w.if-may_matter.false c.args.limit.now on));
          })
    ]

pub returns-clause-here : goal.returns-clause-here
returns-clause-here c =
    let r = c.args.reached.now in
    listed_all c.args.ties (reached_at r) c.args.limit.now (slice_index r.rises.now c.args.v) c.args.found.now.items c.loop-e.found.items
    c.loop-e.e c.args.v r.rises.now c.loop-e.invariant.to c.requires.searched.starts c.requires.vertex.0 refl
    (omega (arith, c.at-start.ensures.past, c.loop-e-test.false))
