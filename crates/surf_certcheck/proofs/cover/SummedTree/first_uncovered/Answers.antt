use Rattle.surf_surfaces.proofs.Common.{subst, arith, edge_count}
use Rattle.surf_certcheck.specs.Covering.{IsCoveredIn}
use Rattle.surf_certcheck.proofs.Bases.{holds_more, failed_at}
use Rattle.surf_certcheck.proofs.cover.SummedTree.first_uncovered.Goals as goal

pub returns-then-not-is_covered : goal.returns-then-not-is_covered
returns-then-not-is_covered c = record {
  first = λ d cycles f.
      failed_at (edge_count c.args.self.now.mesh.now) (IsCoveredIn c.args.self.now d cycles) c.loop-e.e c.new-edge.result
      c.new-edge.ensures (omega (arith, c.loop-e-test.true, c.edges-e-end.ensures.count))
      (c.loop-e.invariant d cycles f) (c.if-not-is_covered.ensures.covered d cycles f);
}

pub loop-e-preserved : goal.loop-e-preserved
loop-e-preserved c = λ d cycles f.
    let P = IsCoveredIn c.args.self.now d cycles in
    holds_more c.loop-e.e P (c.loop-e.invariant d cycles f)
    (subst P c.new-edge.ensures (c.if-not-is_covered.ensures.covered d cycles f))
