use Rattle.surf_surfaces.proofs.Common.{◌≡◌, not, length, get_or, ap, sym, subst, ◌∙◌, arith, inl, inr, cases_eq, ne_eqb, true≢false, get_or_default}
use Rattle.surf_surfaces.specs.Surface.{ends}
use Rattle.surf_base.specs.Tables.{at, nobody}
use Rattle.surf_sheetcheck.specs.Tables.{IsSlot}
use Rattle.surf_sheetcheck.proofs.Slots.{no_slot_set}
use Rattle.surf_sheetcheck.proofs.sets.has_set.Goals as goal

pub returns : goal.returns
returns c =
    let mesh = c.args.case.now.mesh.now in
    let cert = c.args.case.now.cert.now in
    let ready = c.requires.ready in
    let slot = c.index-2.result.now in
    let is_at : slot ≡ at c.args.case.now.slots.items c.args.e =
    c.index-2.ensures ∙ ap (λ i. get_or c.args.case.now.slots.items i slot) c.index.ensures
    ∙ get_or_default c.args.case.now.slots.items c.args.e slot 0 (omega (arith, c.requires.edge, ready.slots.count)) in
    let is = subst (IsSlot cert (length cert.edges) (ends mesh c.args.e)) (sym is_at) (ready.slots.each c.args.e c.requires.edge) in
    record {
      none = λ off. elim (cases_eq slot nobody) [
        | inl none ↦ no_slot_set mesh cert ready.fits.edges c.args.e slot ready.fits.as_many is none
        | inr some ↦ absurd (true≢false (sym (ap not (ne_eqb slot nobody some)) ∙ off))
      ];
    }
