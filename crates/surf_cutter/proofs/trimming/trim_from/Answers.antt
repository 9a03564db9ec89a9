use Rattle.surf_slit.proofs.Common.{◌≡◌, ◌<◌, ◌≤◌, ℕ, false, nat_cmp, get_or, ap, sym, ◌∙◌, arith, nat_tests}
use Rattle.surf_cutter.proofs.Common.{cut_count, is_cut}
use Rattle.std.proofs.Common.{is_lt}
use Rattle.surf_cutter.proofs.Trims.{count_taken, no_other_left, trimmed_more}
use Rattle.surf_cutter.proofs.trimming.trim_from.Goals as goal

at_least : (a b : ℕ) → is_lt (nat_cmp a b) ≡ false → b ≤ a
at_least a b h = grind (arith, nat_tests)

pub loop-left-preserved : goal.loop-left-preserved
loop-left-preserved c =
    let i = c.loop-left.invariant in
    let t = c.take_back-next.ensures in
    let leaf = c.loop-left.leaf in
    let next = c.take_back-next.result in
    let old = c.loop-left.cut in
    let new = c.take_back-next.new.cut in
    let degree = c.loop-left.degree in
    let less = c.take_back-next.new.degree in
    let one : get_or degree leaf 0 ≡ 1 = ap (λ k. get_or degree k 0) (sym c.index.ensures) ∙ c.if-degree-index-eq1.true in
    let counted = count_taken leaf next old new degree less i.degrees.flags t in
    let many : 2 < cut_count c.args.mesh.now (is_cut old) = omega (arith, c.loop-left-test.true, i.counted) in
    record {
      degrees = t.degrees;
      counted = omega (arith, counted, i.counted);
      vertex = t.other_end;
      from = at_least next c.args.low (sym c.lt.ensures ∙ c.if-lt.false);
      trimmed = trimmed_more c.law_of_surface.ensures.surface c.args.cut.now old new degree less leaf next i.trimmed i.degrees i.degrees.flags i.vertex one many (λ v gt v_in. i.above c.loop-left-test.true v (omega (arith, i.from)) v_in (λ e. omega arith)) t;
      above = no_other_left leaf next c.args.low old new degree less c.loop-left.left c.loop-left-test.true i.above t;
    }

pub returns-then-lt-clause-count : goal.returns-then-lt-clause-count
returns-then-lt-clause-count c =
    let i = c.loop-left.invariant in
    omega (arith, i.counted, count_taken c.loop-left.leaf c.take_back-next.result c.loop-left.cut c.take_back-next.new.cut c.loop-left.degree c.take_back-next.new.degree i.degrees.flags c.take_back-next.ensures)

pub returns-then-lt-clause-trimmed : goal.returns-then-lt-clause-trimmed
returns-then-lt-clause-trimmed c =
    let i = c.loop-left.invariant in
    let t = c.take_back-next.ensures in
    let leaf = c.loop-left.leaf in
    let next = c.take_back-next.result in
    let old = c.loop-left.cut in
    let degree = c.loop-left.degree in
    let one : get_or degree leaf 0 ≡ 1 = ap (λ k. get_or degree k 0) (sym c.index.ensures) ∙ c.if-degree-index-eq1.true in
    let many : 2 < cut_count c.args.mesh.now (is_cut old) = omega (arith, c.loop-left-test.true, i.counted) in
    trimmed_more c.law_of_surface.ensures.surface c.args.cut.now old c.take_back-next.new.cut degree c.take_back-next.new.degree leaf next i.trimmed i.degrees i.degrees.flags i.vertex one many
    (λ v gt v_in. i.above c.loop-left-test.true v (omega (arith, i.from)) v_in (λ e. omega arith)) t
