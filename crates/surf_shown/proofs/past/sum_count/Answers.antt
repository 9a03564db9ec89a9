use Rattle.surf_surfaces.proofs.Common.{◌≤◌, length, arith}
use Rattle.surf_shown.proofs.PastLoops.{count_by_ranks}
use Rattle.surf_shown.proofs.past.sum_count.Goals as goal

pub returns : goal.returns
returns c = record {
  sum =
      (let claim = c.args.claim.now in
      let few : c.sum_length-count.result ≤ length claim.loops.now = omega (arith, c.if-count-claim.false) in (
        few,
        count_by_ranks claim.loops.now claim.ranks.now.kept c.sum_length-count.result c.args.class.now c.requires.claim.ranked
            (c.sum_length-count.ensures.sum c.if-count.false) few,
      ));
}
