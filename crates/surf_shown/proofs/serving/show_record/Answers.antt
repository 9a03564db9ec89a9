use Rattle.surf_surfaces.proofs.Common.{◌<◌, ◌≤◌, ◌⊎◌, ℕ, Bool, List, All, Contains, refl, sym, subst, take}
use Rattle.surf_base.specs.Tables.{at}
use Rattle.surf_sheetorder.specs.Needs.{IsPastNeed}
use Rattle.surf_choice.specs.declared.candidate.Signed.{Signed}
use Rattle.surf_shown.specs.Shown.{IsSearched, claimed, is_served_by, loops_of}
use Rattle.surf_shown.proofs.ServedLaws.{record_shows, served_more}
use Rattle.surf_shown.proofs.serving.show_record.Goals as goal

pub returns-clause-shown : goal.returns-clause-shown
returns-clause-shown c =
    let claim = c.args.claim.now in
    let records = c.args.records.now in
    let t = c.args.t in
    let r = c.index-records-t.result in
    let end = c.end_before-end.result in
    let off : ℕ → Bool = is_served_by (take t records) in
    record_shows claim r off c.args.from c.args.to end c.args.ends.now c.raise_all.new.ends
    c.law_of_surface.ensures.surface c.requires.claim
    (subst (IsSearched claim off) (sym c.index-records-t.is) (c.requires.records.searched t r c.requires.place))
    c.end_before-end.ensures.within.1 c.requires.count c.requires.shown c.requires.least c.requires.off
    c.end_before-end.ensures.past
    (λ i low high.
    subst (λ (list : List Signed). All (IsPastNeed (claimed claim) r.margin i) (loops_of list)) c.deref.ensures.value
    (c.if-not-are_past_needs.ensures.past refl i low high))
    (λ v i less.
    subst (λ (list : List ℕ). (i < at c.args.ends.now v) ⊎ ((i < end) × Contains list v)) c.deref-2.ensures.value
    (c.raise_all.ensures.each v i less))

pub returns-clause-off : goal.returns-clause-off
returns-clause-off c = (
  c.end_before-end.ensures.within.0,
  c.end_before-end.ensures.within.1,
  served_more c.args.records.now c.args.t c.end_before-end.result c.args.to c.index-records-t.result c.args.ends.now
      c.raise_all.new.ends c.requires.place c.index-records-t.is c.end_before-end.ensures.within.1 c.requires.off
      c.raise_all.ensures.more
      (subst (λ (list : List ℕ). All (λ v. c.end_before-end.result ≤ at c.raise_all.new.ends v) list) c.deref-2.ensures.value
      c.raise_all.ensures.raised),
)
