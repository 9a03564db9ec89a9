use Rattle.surf_basis.proofs.Common.{AreCyclesOf, AreOffered, AreKeptOver, HaveWalks, IsMeasured, [], ◌+◌, ◌≡◌, ◌<◌, ◌≤◌, ◌^◌, ℕ, List, All, length, slice_index, refl, sym, ap, ◌∙◌, subst, arith, get_or_read, edge_count, IsSurface, ArePositive, Signed, Chosen, signed_earlier, independent_of, SurfaceTables, lengths_at, AreSigned}
use Rattle.surf_search.proofs.Common.{merge}
use Rattle.surf_basis.proofs.Based.{offered_small}
use Rattle.surf_basis.proofs.Kept.{none_kept}
use Rattle.surf_basis.proofs.Whole.{all_measured, kept_over}
use Rattle.surf_basis.proofs.basis.choose.Goals as goal

pub loop-base-init : goal.loop-base-init
loop-base-init c =
    let f = c.args.finder.now in
    record {
      same = refl;
      width = refl;
      least = c.requires.width;
      kept = λ trees chosen d split are.
          none_kept f.mesh f.lengths trees c.requires.positive.0 c.requires.positive.1 chosen d split c.args.found.now c.args.bases.now c.args.choice.now.kept c.requires.none;
      cycles = subst (λ ks. AreCyclesOf f.mesh f.lengths ks c.new-cycles.result.items) (sym c.requires.none)
          (subst (AreCyclesOf f.mesh f.lengths []) (sym c.new-cycles.ensures.items) tt);
      walks = subst (HaveWalks f.mesh f.lengths) (sym c.new-cycles.ensures.items) (λ k d l. absurd (omega (arith, l)));
    }

pub loops_at-requires : goal.loops_at-requires
loops_at-requires c =
    let f = c.args.finder.now in
    let at = get_or_read c.args.bases.now c.loop-base.base-index c.base-item.result c.loop-base-test.true c.base-item.is 0 in
    let inside = c.requires.bases.inside c.loop-base.base-index c.loop-base-test.true in
    let base_in : c.base-item.result < f.mesh.vertices = omega (arith, at, inside) in
    let old = sym c.loop-base.invariant.same in
    record {
      base = subst (λ (g : SurfaceTables). c.base-item.result < g.mesh.vertices) old base_in;
      signed = subst (λ (g : SurfaceTables). AreSigned g.mesh g.signs c.loop-base.least.width) old
          (subst (AreSigned f.mesh f.signs) (sym c.loop-base.invariant.least) c.requires.signed);
      positive = subst (λ (g : SurfaceTables). IsSurface g.mesh × ArePositive g.mesh g.lengths) old c.requires.positive;
      few = subst (λ (g : SurfaceTables). (g.mesh.vertices < 2 ^ 32) × (edge_count g.mesh ≤ 2 ^ 32)) old c.requires.few;
    }

pub keep-requires : goal.keep-requires
keep-requires c =
    let f = c.args.finder.now in
    let width = c.loop-base.choice.width in
    let loops = c.loops_at.new.loops.items in
    let there : AreOffered f.mesh f.lengths f.signs (lengths_at c.args.found.now c.base-item.result) c.base-item.result c.loops_at.new.loops.items =
    subst (λ (ls : List ℕ). AreOffered f.mesh f.lengths f.signs ls c.base-item.result c.loops_at.new.loops.items)
    (c.deref.ensures.value ∙ c.in_ok-list_lengths.ensures.lengths)
    (subst (λ (g : SurfaceTables). AreOffered g.mesh g.lengths g.signs c.deref.result.now c.base-item.result c.loops_at.new.loops.items)
    c.loop-base.invariant.same c.in_ok-loops_at.ensures.loops) in
    record {
      small = subst (λ (xs : List Signed). All (λ k. k.signature < 2 ^ width) xs) (sym c.deref-in-loop-base.ensures.value)
          (offered_small f.mesh f.lengths c.requires.positive.0 c.requires.positive.1 f.signs width
          (subst (AreSigned f.mesh f.signs) (sym c.loop-base.invariant.width) c.requires.signed) (lengths_at c.args.found.now c.base-item.result)
          c.base-item.result loops there);
    }

pub cycles_of-requires : goal.cycles_of-requires
cycles_of-requires c =
    let f = c.args.finder.now in
    let x = c.base-item.result in
    let i = c.loop-base.base-index in
    let now = c.loops_at.ensures.same ∙ c.loop-base.invariant.same in
    let at : x ≡ slice_index c.args.bases.now i = get_or_read c.args.bases.now i x c.loop-base-test.true c.base-item.is 0 in
    let some = c.deref.ensures.value ∙ c.in_ok-list_lengths.ensures.lengths in
    let next = ap (λ (k : Chosen). k.kept) c.in_ok-keep.ensures.kept
    ∙ ap (λ (xs : List Signed). independent_of (merge signed_earlier c.loop-base.choice.kept xs)) c.deref-in-loop-base.ensures.value in
    let there = subst (λ (g : SurfaceTables). AreOffered g.mesh g.lengths g.signs c.deref.result.now x c.loops_at.new.loops.items)
    c.loop-base.invariant.same c.in_ok-loops_at.ensures.loops in
    let over = kept_over f.mesh f.lengths c.requires.positive.0 c.requires.positive.1 f.signs c.args.found.now c.args.bases.now i x c.deref.result.now
    c.loops_at.new.loops.items c.loop-base.choice.kept c.keep.new.self.kept c.requires.bases c.requires.has c.loop-base-test.true (sym at) some there
    c.loop-base.invariant.kept next in
    record {
      measured = subst (λ (g : SurfaceTables). All (λ s. IsMeasured g.mesh g.lengths s.candidate) c.kept.result.now) (sym now)
          (all_measured f.mesh f.lengths c.requires.positive.0 c.requires.positive.1 f.signs c.args.choice.now.width c.requires.signed c.args.found.now
          c.args.bases.now (i + 1) c.keep.new.self.kept c.kept.result.now over c.kept.ensures.kept);
      before = subst (λ (g : SurfaceTables). HaveWalks g.mesh g.lengths c.loop-base.cycles.items) (sym now) c.loop-base.invariant.walks;
    }

pub loop-base-preserved : goal.loop-base-preserved
loop-base-preserved c =
    let f = c.args.finder.now in
    let x = c.base-item.result in
    let i = c.loop-base.base-index in
    let now = c.loops_at.ensures.same ∙ c.loop-base.invariant.same in
    let at : x ≡ slice_index c.args.bases.now i = get_or_read c.args.bases.now i x c.loop-base-test.true c.base-item.is 0 in
    let some = c.deref.ensures.value ∙ c.in_ok-list_lengths.ensures.lengths in
    let next = ap (λ (k : Chosen). k.kept) c.in_ok-keep.ensures.kept
    ∙ ap (λ (xs : List Signed). independent_of (merge signed_earlier c.loop-base.choice.kept xs)) c.deref-in-loop-base.ensures.value in
    let there = subst (λ (g : SurfaceTables). AreOffered g.mesh g.lengths g.signs c.deref.result.now x c.loops_at.new.loops.items)
    c.loop-base.invariant.same c.in_ok-loops_at.ensures.loops in
    let cycles = c.in_ok-cycles.cycles.items in
    record {
      same = c.cycles_of.ensures.same ∙ now;
      width = c.keep.ensures.width ∙ c.loop-base.invariant.width;
      least = c.loops_at.ensures.width ∙ c.loop-base.invariant.least;
      kept = kept_over f.mesh f.lengths c.requires.positive.0 c.requires.positive.1 f.signs c.args.found.now c.args.bases.now i x c.deref.result.now
          c.loops_at.new.loops.items c.loop-base.choice.kept c.keep.new.self.kept c.requires.bases c.requires.has c.loop-base-test.true (sym at) some there
          c.loop-base.invariant.kept next;
      cycles = subst (λ (g : SurfaceTables). AreCyclesOf g.mesh g.lengths c.keep.new.self.kept cycles) now
          (subst (λ ks. AreCyclesOf c.loops_at.new.finder.mesh c.loops_at.new.finder.lengths ks cycles) c.kept.ensures.kept c.in_ok-cycles.ensures.cycles);
      walks = subst (λ (g : SurfaceTables). HaveWalks g.mesh g.lengths cycles) now c.in_ok-cycles.ensures.walks;
    }

pub returns-clause-kept : goal.returns-clause-kept
returns-clause-kept c =
    let f = c.args.finder.now in
    let e : c.loop-base.base-index ≡ length c.args.bases.now = omega (arith, c.loop-base-test.false, c.loop-base.auto.base-index-end) in
    subst (λ k. AreKeptOver f.mesh f.lengths f.signs c.args.found.now c.args.bases.now k c.loop-base.choice.kept) e c.loop-base.invariant.kept
