use Rattle.surf_surfaces.proofs.Common.{sym, ◌∙◌, arith, length-set}
use Rattle.surf_soup.proofs.ForestSteps.{falls_set, twice_low, halved}
use Rattle.surf_soup.proofs.forest.root_of.Goals as goal

pub loop-parents-preserved : goal.loop-parents-preserved
loop-parents-preserved c =
    let now = c.loop-parents.parents in
    let x = c.loop-parents.number in
    let so_far = c.loop-parents.invariant in
    let parent = Rattle.std.proofs.Common.get_or now x 0 in
    let above = Rattle.std.proofs.Common.get_or now parent 0 in
    let first = so_far.falls x so_far.inside in
    let second = twice_low now x so_far.inside so_far.falls in
    record {
      falls = falls_set now x above so_far.falls so_far.inside (omega arith);
      inside = omega (arith, length-set now x above, so_far.inside);
      same = λ root r.
          let old = so_far.same root r in
          let new = halved now x so_far.inside so_far.falls root old.0 in
          (new.0, new.1 ∙ old.1);
    }

pub returns-clause-same : goal.returns-clause-same
returns-clause-same c = λ root r.
    let so_far = c.loop-parents.invariant in
    let old = so_far.same root r in
    (old.0, sym (old.0.own c.loop-parents.number so_far.inside (omega (arith, c.loop-parents-test.false))) ∙ old.1)
