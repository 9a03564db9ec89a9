use Rattle.std.proofs.Common.{refl}
use Rattle.surf_certcheck.proofs.Cleared.{clear_itself, clear_through}
use Rattle.surf_certcheck.proofs.tops.top_of.Goals as goal

pub loop-tops-init : goal.loop-tops-init
loop-tops-init c = record {
  tops = c.requires.tops;
  inside = c.requires.face;
  clear = clear_itself c.args.judge.now c.args.limit c.args.face c.args.face refl;
}

pub loop-tops-preserved : goal.loop-tops-preserved
loop-tops-preserved c =
    let at = c.loop-tops.at in
    record {
      tops = c.raise_top-at.ensures.tops;
      inside = c.raise_top-at.ensures.face;
      clear = clear_through c.args.judge.now c.args.limit c.args.face at c.raise_top-at.result c.loop-tops.invariant.clear
          c.raise_top-at.ensures.clear;
    }
