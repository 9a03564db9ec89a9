use Rattle.surf_slit.proofs.Common.{◌≡◌, ◌+◌, ◌∙◌, suc, false, true, get_or, ap, sym, arith, false≢true}
use Rattle.surf_cutter.proofs.Common.{cut_count, is_cut, is_marked}
use Rattle.surf_cutter.proofs.Trims.{count_taken}
use Rattle.surf_cutter.proofs.Takes.{taken_none, taken_more, no_other_loose, begun_at, leaf_kept}
use Rattle.surf_cutter.proofs.taking.take_from.Goals as goal

pub loop-degree-init : goal.loop-degree-init
loop-degree-init c = record {
  degrees = c.requires.degrees;
  vertex = c.requires.vertex;
  taken = taken_none c.args.mesh.now c.args.marks.now c.args.cut.now;
  others = begun_at c.args.mesh.now c.args.marks.now c.args.start c.args.degree.now c.requires.below;
}

pub loop-degree-smaller : goal.loop-degree-smaller
loop-degree-smaller c =
    let less : cut_count c.args.mesh.now (is_cut c.loop-degree.cut) ≡ suc (cut_count c.args.mesh.now (is_cut c.take_back-leaf.new.cut)) =
    count_taken c.loop-degree.leaf c.take_back-leaf.result c.loop-degree.cut c.take_back-leaf.new.cut c.loop-degree.degree c.take_back-leaf.new.degree
    c.loop-degree.invariant.degrees.flags c.take_back-leaf.ensures in
    omega (arith, less)

pub loop-degree-preserved : goal.loop-degree-preserved
loop-degree-preserved c =
    let i = c.loop-degree.invariant in
    let t = c.take_back-leaf.ensures in
    let leaf = c.loop-degree.leaf in
    let next = c.take_back-leaf.result in
    let old = c.loop-degree.cut in
    let new = c.take_back-leaf.new.cut in
    let degree = c.loop-degree.degree in
    let less = c.take_back-leaf.new.degree in
    let one : get_or degree leaf 0 ≡ 1 = ap (λ k. get_or degree k 0) (sym c.index.ensures) ∙ c.loop-degree-test.true in
    let no_mark : is_marked c.args.marks.now leaf ≡ false =
    ap (λ k. get_or c.args.marks.now k false) (sym c.index-in-loop-degree.ensures) ∙ c.if-not-marks-index.true in
    record {
      degrees = t.degrees;
      vertex = t.other_end;
      taken = taken_more c.args.marks.now c.args.cut.now old new degree less leaf next i.taken i.degrees i.degrees.flags i.vertex no_mark one t;
      others = no_other_loose c.args.marks.now (c.args.start + 1) leaf next old new degree less i.others t;
    }

pub returns-else-not-marks-index-clause-below : goal.returns-else-not-marks-index-clause-below
returns-else-not-marks-index-clause-below c =
    let leaf = c.loop-degree.leaf in
    let marked : is_marked c.args.marks.now leaf ≡ true =
    ap (λ k. get_or c.args.marks.now k false) (sym c.index-in-loop-degree.ensures) ∙ c.if-not-marks-index.false in
    leaf_kept c.args.mesh.now c.args.marks.now (c.args.start + 1) leaf c.loop-degree.degree c.loop-degree.invariant.others
    (λ no_mark. absurd (false≢true (sym no_mark ∙ marked)))

pub returns-after-loop-degree-clause-below : goal.returns-after-loop-degree-clause-below
returns-after-loop-degree-clause-below c =
    let leaf = c.loop-degree.leaf in
    leaf_kept c.args.mesh.now c.args.marks.now (c.args.start + 1) leaf c.loop-degree.degree c.loop-degree.invariant.others
    (λ _ one. c.loop-degree-test.false (ap (λ k. get_or c.loop-degree.degree k 0) c.index.ensures ∙ one))
