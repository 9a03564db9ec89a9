use Rattle.surf_treecheck.proofs.Common.{rules, ◌≡◌, ◌<◌, ◌∙◌, map, sym, ap, subst, arith, edge_count, tree_at, split_in, weighed_cycle, IsCovered, IsFirstAt, HoldsBelow, FailsFirst}
use Rattle.surf_certcheck.proofs.Common.{IsClimbed, IsCoveredBy, lengths_positive}
use Rattle.surf_certcheck.proofs.Bases.{AreCovered, first_at, holds_more}
use Rattle.surf_certcheck.proofs.Independence.{frame_whole}
use Rattle.surf_certcheck.proofs.Validity.{climbed_at}
use Rattle.surf_certcheck.proofs.cover.first_uncovered.Goals as goal

pub sum_ways-requires-clause-climbed : goal.sum_ways-requires-clause-climbed
sum_ways-requires-clause-climbed c =
    let mesh = c.args.case.now.mesh.now in
    let cert = c.args.case.now.cert.now in
    let is : c.tree_from-rows.result.now ≡ tree_at cert c.loop-x.x =
    c.tree_from-rows.ensures.tree ∙ ap (tree_at cert) c.new-base.ensures in
    subst (IsClimbed mesh) (sym is)
    (climbed_at mesh c.args.case.now.lengths.now cert c.vertices-x-end.ensures.surface
    (lengths_positive mesh c.args.case.now.lengths.now c.law_of_lengths.ensures.lengths c.args.case.now.measured) c.args.case.now.shape.vertices
    c.args.case.now.shape.bases c.requires.valid c.loop-x.x (omega (arith, c.loop-x-test.true, c.vertices-x-end.ensures.count)))

pub first_uncovered-requires : goal.first_uncovered-requires
first_uncovered-requires c =
    let mesh = c.args.case.now.mesh.now in
    let cert = c.args.case.now.cert.now in
    let is : c.tree_from-rows.result.now ≡ tree_at cert c.loop-x.x =
    c.tree_from-rows.ensures.tree ∙ ap (tree_at cert) c.new-base.ensures in
    record {
      ready = record {
        climbed = subst (IsClimbed mesh) (sym is)
            (climbed_at mesh c.args.case.now.lengths.now cert c.vertices-x-end.ensures.surface
            (lengths_positive mesh c.args.case.now.lengths.now c.law_of_lengths.ensures.lengths c.args.case.now.measured)
            c.args.case.now.shape.vertices c.args.case.now.shape.bases c.requires.valid c.loop-x.x
            (omega (arith, c.loop-x-test.true, c.vertices-x-end.ensures.count)));
        room = c.sum_ways.ensures.room;
        summed = c.sum_ways.ensures.summed;
        lengths = c.args.case.now.measured;
        count = c.requires.count;
        width = c.args.frame.now.few;
        widths = omega (arith, c.sum_ways.ensures.width, c.args.frame.now.few);
        sorted = c.requires.sorted;
      };
    }

pub returns-in-Some : goal.returns-in-Some
returns-in-Some c =
    let mesh = c.args.case.now.mesh.now in
    let lengths = c.args.case.now.lengths.now in
    let cert = c.args.case.now.cert.now in
    let d = split_in mesh cert in
    let cycles = map (weighed_cycle mesh lengths cert) cert.cycles in
    let frame = frame_whole mesh lengths cert c.args.frame.now.signs c.args.frame.now.weights.items c.requires.frame in
    let x = c.loop-x.x in
    let is : c.tree_from-rows.result.now ≡ tree_at cert x =
    c.tree_from-rows.ensures.tree ∙ ap (tree_at cert) c.new-base.ensures in
    let inside : x < mesh.vertices = omega (arith, c.loop-x-test.true, c.vertices-x-end.ensures.count) in
    let first : FailsFirst (edge_count mesh) (IsCovered mesh lengths cert x) c.in-Some.edge =
    subst (λ rows. FailsFirst (edge_count mesh) (IsCoveredBy mesh lengths d cycles rows) c.in-Some.edge) is
    (c.in-Some.ensures.first d cycles frame) in
    record {
      first = subst
          (λ y. IsFirstAt mesh.vertices (edge_count mesh) (IsCovered mesh lengths cert) y c.in-Some.edge)
          (sym c.new-base.ensures)
          (first_at mesh.vertices (edge_count mesh) (IsCovered mesh lengths cert) x c.in-Some.edge inside
          c.loop-x.invariant.covered first);
    }

pub loop-x-preserved : goal.loop-x-preserved
loop-x-preserved c =
    let mesh = c.args.case.now.mesh.now in
    let lengths = c.args.case.now.lengths.now in
    let cert = c.args.case.now.cert.now in
    let d = split_in mesh cert in
    let cycles = map (weighed_cycle mesh lengths cert) cert.cycles in
    let frame = frame_whole mesh lengths cert c.args.frame.now.signs c.args.frame.now.weights.items c.requires.frame in
    let x = c.loop-x.x in
    let is : c.tree_from-rows.result.now ≡ tree_at cert x =
    c.tree_from-rows.ensures.tree ∙ ap (tree_at cert) c.new-base.ensures in
    record {
      all = c.sum_ways.ensures.all;
      room = c.sum_ways.ensures.room;
      width = c.sum_ways.ensures.width;
      covered = holds_more x (AreCovered mesh lengths cert) c.loop-x.invariant.covered
          (subst (λ rows. HoldsBelow (edge_count mesh) (IsCoveredBy mesh lengths d cycles rows)) is
          (c.in_default.ensures.first d cycles frame));
    }

pub returns : goal.returns
returns c =
    let end : c.loop-x.x ≡ c.args.case.now.mesh.now.vertices = search rules in
    record {
      first = subst (λ n. HoldsBelow n (AreCovered c.args.case.now.mesh.now c.args.case.now.lengths.now c.args.case.now.cert.now)) end
          c.loop-x.invariant.covered;
    }
