use Rattle.surf_surfaces.proofs.Common.{◌≡◌, length, ap, subst, ◌∙◌, arith, set, Some, refl, get_or_default}
use Rattle.surf_heap.specs.Entries.{entry_of, lesser}
use Rattle.surf_base.specs.Tables.{at}
use Rattle.surf_sheetcheck.proofs.Listing.{AreSeedsUpTo, seeds_none, seeds_more, seeds_all}
use Rattle.surf_sheetcheck.proofs.search.offer_part.Goals as goal

pub loop-i-init : goal.loop-i-init
loop-i-init c = seeds_none c.args.part.now (length c.args.heap.now) c.args.heap.now refl c.requires.empty

pub loop-i-preserved : goal.loop-i-preserved
loop-i-preserved c =
    let part = c.args.part.now in
    let i = c.loop-i.i in
    let heap = c.loop-i.heap in
    let same : c.number.result ≡ at part i =
    c.number.ensures ∙ c.index-part-i.is ∙ get_or_default part i c.index-part-i.result 0 c.loop-i-test.true in
    seeds_more part (length c.args.heap.now) i heap c.offer.new.self c.loop-i-test.true
    (c.requires.inside i 0 c.loop-i-test.true) c.loop-i.invariant
    (c.offer.ensures.entry ∙ ap (λ w. set heap w (Some (lesser (entry_of heap w) 0 0))) same)

pub returns : goal.returns
returns c =
    let end : c.loop-i.i ≡ length c.args.part.now = omega (arith, c.loop-i-test.false, c.loop-i.auto.i-end) in
    record {
      seeds = seeds_all c.args.part.now (length c.args.heap.now) c.loop-i.heap
          (subst (λ n. AreSeedsUpTo c.args.part.now (length c.args.heap.now) n c.loop-i.heap) end c.loop-i.invariant);
    }
