use Rattle.surf_finder.proofs.Common.{◌+◌, All, sym, ◌∙◌, subst, SurfaceTables, AreWrittenTo, IsMeasured}
use Rattle.surf_finder.proofs.Walked.{all_written}
use Rattle.surf_finder.proofs.finder.Finder.write_walks.Goals as goal

pub write_from-requires : goal.write_from-requires
write_from-requires c =
    let kept = c.args.kept.now in
    let same = sym c.loop-k.invariant.same in
    record {
      place = c.loop-k-test.true;
      measured = subst (λ (g : SurfaceTables). All (λ s. IsMeasured g.mesh g.lengths s.candidate) kept) same c.requires.measured;
      before = subst (λ (g : SurfaceTables). AreWrittenTo g.mesh g.lengths kept c.loop-k.k c.loop-k.walks) same c.loop-k.invariant.written;
    }

pub loop-k-preserved : goal.loop-k-preserved
loop-k-preserved c =
    let kept = c.args.kept.now in
    let walks = c.write_from.new.walks in
    let same = c.loop-k.invariant.same in
    record {
      same = c.write_from.ensures.same ∙ same;
      written = subst (λ (g : SurfaceTables). AreWrittenTo g.mesh g.lengths kept (c.loop-k.k + 1) walks) same c.in_ok-write_from.ensures.written;
    }

pub returns-clause-walks : goal.returns-clause-walks
returns-clause-walks c =
    all_written c.args.self.now.mesh c.args.self.now.lengths c.args.kept.now c.loop-k.k c.loop-k.walks c.loop-k.invariant.written c.loop-k-test.false
