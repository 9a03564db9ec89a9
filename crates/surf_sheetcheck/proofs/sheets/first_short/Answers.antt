use Rattle.surf_surfaces.proofs.Common.{◌≡◌, length, ap, subst, arith}
use Rattle.surf_treecheck.specs.First.{HoldsBelow}
use Rattle.surf_certcheck.proofs.Bases.{holds_more}
use Rattle.surf_sheetcheck.specs.Valid.{Holds}
use Rattle.surf_sheetcheck.specs.Serving.{IsLeft}
use Rattle.surf_sheetcheck.proofs.sheets.first_short.Goals as goal

pub loop-place-preserved : goal.loop-place-preserved
loop-place-preserved c =
    let case = c.args.case.now in
    let judged = c.in_ok-edge.ensures.judged in
    record {
      fresh = c.in_ok-edge.ensures.fresh;
      lefts = c.in_ok-edge.ensures.lefts;
      left = judged.served;
      holds = holds_more c.loop-place.place (Holds case.mesh.now case.lengths.now case.cert.now) c.loop-place.invariant.holds
          (judged.holds c.if-edge.false);
    }

pub returns : goal.returns
returns c =
    let case = c.args.case.now in
    let size = ap length c.sheets-place-end.ensures.sheets in
    let end : c.loop-place.place ≡ length case.cert.now.sheets = omega (arith, c.loop-place-test.false, c.loop-place.auto.place-end, size) in
    record {
      first = (
        subst (λ n. HoldsBelow n (Holds case.mesh.now case.lengths.now case.cert.now)) end c.loop-place.invariant.holds,
        subst (λ n. IsLeft case n c.loop-place.left) end c.loop-place.invariant.left,
        c.loop-place.invariant.lefts,
      );
    }
