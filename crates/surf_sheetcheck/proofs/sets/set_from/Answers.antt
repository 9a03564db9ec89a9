use Rattle.surf_surfaces.proofs.Common.{rules, ◌≡◌, ◌-◌, ◌^◌, length, take, bit_xor, ap, sym, ◌∙◌}
use Rattle.surf_treecheck.proofs.Steps.{sets_more, take_whole}
use Rattle.surf_sheetcheck.specs.Cocycles.{set_of}
use Rattle.surf_sheetcheck.proofs.sets.set_from.Goals as goal

pub loop-i-preserved : goal.loop-i-preserved
loop-i-preserved c =
    let row = c.args.row.now in
    let i = c.loop-i.i in
    c.add.ensures ∙ ap (λ x. bit_xor x c.bits.result) c.loop-i.invariant
    ∙ ap (bit_xor (set_of (take i row))) (c.bits.ensures ∙ c.unit.ensures)
    ∙ sym (sets_more (λ j. 2 ^ (j - 1)) row i 0 c.loop-i-test.true)

pub returns : goal.returns
returns c =
    let end : c.loop-i.i ≡ length c.args.row.now = search rules in
    record { set = c.loop-i.invariant ∙ ap set_of (take_whole c.args.row.now c.loop-i.i end) }
