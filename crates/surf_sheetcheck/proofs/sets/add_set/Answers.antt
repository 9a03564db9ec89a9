use Rattle.surf_surfaces.proofs.Common.{◌≡◌, ◌≢◌, ◌<◌, ◌∙◌, [], length, get_or, bit_xor, ap, sym, subst, arith, get_or-map, get_or_default, xor_zero_r}
use Rattle.surf_surfaces.specs.Surface.{ends}
use Rattle.surf_base.specs.Tables.{at, nobody}
use Rattle.surf_sheetcheck.specs.Cocycles.{set_of, row_at}
use Rattle.surf_sheetcheck.specs.Tables.{IsSlot}
use Rattle.surf_sheetcheck.proofs.Slots.{slot_set, no_slot_set}
use Rattle.surf_sheetcheck.proofs.sets.add_set.Goals as goal

pub returns-then-slot : goal.returns-then-slot
returns-then-slot c =
    let mesh = c.args.case.now.mesh.now in
    let cert = c.args.case.now.cert.now in
    let ready = c.requires.ready in
    let slot = c.index-slot.result.now in
    let is_at : slot ≡ at c.args.case.now.slots.items c.args.e =
    c.index-slot.ensures ∙ ap (λ i. get_or c.args.case.now.slots.items i slot) c.index.ensures
    ∙ get_or_default c.args.case.now.slots.items c.args.e slot 0 (omega (arith, c.requires.edge, ready.slots.count)) in
    let is = subst (IsSlot cert (length cert.edges) (ends mesh c.args.e)) (sym is_at) (ready.slots.each c.args.e c.requires.edge) in
    let some : slot ≢ nobody = c.if-slot.true in
    let inside : slot < length cert.numbers = omega (arith, (is.some some).0, ready.fits.as_many) in
    let set : c.of.result ≡ set_of (row_at cert slot) =
    c.of.ensures.set ∙ ap (at c.args.case.now.sets.sets) c.new.ensures ∙ ap (λ xs. at xs slot) ready.sets.sets
    ∙ get_or-map set_of cert.numbers slot [] 0 inside in
    record { added = c.add.ensures ∙ ap (bit_xor c.args.sum.now) (set ∙ sym (slot_set mesh cert ready.fits.edges c.args.e slot is some)) }

pub returns-else-slot : goal.returns-else-slot
returns-else-slot c =
    let mesh = c.args.case.now.mesh.now in
    let cert = c.args.case.now.cert.now in
    let ready = c.requires.ready in
    let slot = c.index-slot.result.now in
    let is_at : slot ≡ at c.args.case.now.slots.items c.args.e =
    c.index-slot.ensures ∙ ap (λ i. get_or c.args.case.now.slots.items i slot) c.index.ensures
    ∙ get_or_default c.args.case.now.slots.items c.args.e slot 0 (omega (arith, c.requires.edge, ready.slots.count)) in
    let is = subst (IsSlot cert (length cert.edges) (ends mesh c.args.e)) (sym is_at) (ready.slots.each c.args.e c.requires.edge) in
    let none : slot ≡ nobody = c.if-slot.false in
    record {
      added = sym (ap (bit_xor c.args.sum.now) (no_slot_set mesh cert ready.fits.edges c.args.e slot ready.fits.as_many is none)
          ∙ xor_zero_r c.args.sum.now);
    }
