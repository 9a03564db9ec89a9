use Rattle.surf_finder.proofs.Common.{◌≡◌, ◌<◌, ◌≤◌, ◌+◌, ◌∙◌, IsTrue, slice_index, sym, subst, arith, is_near, reached_at}
use Rattle.surf_finder.proofs.Rising.{low_is}
use Rattle.surf_finder.proofs.Firsts.{IsFirstListedTo, first_begun, first_same, first_more, first_settled}
use Rattle.surf_finder.proofs.foremost.first_at.Goals as goal
use Rattle.surf_finder.proofs.foremost.first_at.Goals.{then-may_matter, else-may_matter}

pub loop-e-init : goal.loop-e-init
loop-e-init c =
    let x = reached_at c.args.reached.now in
    let start = slice_index c.args.reached.now.rises.now c.args.v in
    record {
      from = omega (arith, c.at-start.ensures.first);
      to = λ old told is.
          subst (λ e. IsFirstListedTo x c.args.limit.now start old e c.args.before) (sym c.at-start.ensures.first)
          (first_begun x c.args.limit.now start old c.args.before told is);
    }

pub may_matter-requires-clause-low : goal.may_matter-requires-clause-low
may_matter-requires-clause-low c =
    let r = c.args.reached.now in
    let low : c.rise_of-rise.result.low ≡ c.args.v = low_is r.surface.now.mesh.now r.rises.now c.args.v c.loop-e.e c.at-start.result.1
    c.rise_of-rise.result c.requires.searched.starts c.requires.vertex.0 c.loop-e.invariant.from c.loop-e-test.true c.at-start.ensures.past
    c.rise_of-rise.ensures.rise (c.rise_of-rise.ensures.edge ∙ c.new.ensures) in
    subst (λ n. (n < r.surface.now.mesh.now.vertices) × IsTrue (is_near r.desk.now n)) (sym low) c.requires.vertex

pub loop-e-preserved : goal.loop-e-preserved
loop-e-preserved c =
    let h = c.loop-e.invariant in
    let x = reached_at c.args.reached.now in
    let limit = c.args.limit.now in
    let start = slice_index c.args.reached.now.rises.now c.args.v in
    let from : slice_index c.args.reached.now.rises.now c.args.v ≤ c.loop-e.e + 1 = omega (arith, h.from) in
    let edge = c.rise_of-rise.result.edge in
    let at : c.rise_of-rise.result.edge ≡ c.loop-e.e = c.rise_of-rise.ensures.edge ∙ c.new.ensures in
    elim c.if-may_matter.branch [
      | then-may_matter w ↦
          rw w.first-is (record {
            from = from;
            to = λ old told is.
                first_more x limit start old c.loop-e.e edge c.loop-e.first w.first_with-first.result (h.to old told is) at
                c.rise_of-rise.ensures.rise.edge_in w.first_with-first.ensures.first;
          })
      | else-may_matter w ↦
          rw w.first-is (record {
            from = from;
            to = λ old told is.
                first_same x limit start old c.loop-e.e edge c.loop-e.first (h.to old told is) at
                (c.may_matter.ensures.off w.if-may_matter.false limit);
          })
    ]

pub returns : goal.returns
returns c = record {
  first = λ count is told.
      first_settled (reached_at c.args.reached.now) c.args.limit.now c.args.v c.loop-e.e c.args.reached.now.rises.now count c.args.before
      c.loop-e.first told is c.requires.searched.starts c.requires.vertex.0 (c.loop-e.invariant.to told.found told.each told.is_first)
      (omega (arith, c.at-start.ensures.past, c.loop-e-test.false));
}
