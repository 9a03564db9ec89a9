use Rattle.surf_slit.proofs.Common.{◌≡◌, ◌+◌, ◌<◌, ℕ, List, length, get_or, ap, sym, ◌∙◌, subst, inl, inr, arith, cases_eq, get_or_default, set}
use Rattle.surf_cutter.proofs.Common.{nobody, label_at}
use Rattle.surf_cutter.proofs.Numbered.{AreNumberedIn, numbered_start, numbered_done, numbered_again, numbered_new, place_few}
use Rattle.surf_cutter.proofs.copies.number_row.Goals as goal

pub loop-side-preserved : goal.loop-side-preserved
loop-side-preserved c =
    let mesh = c.args.mesh.now in
    let ring_row = c.args.row.now in
    let labels = c.args.labels.now in
    let v = c.args.v in
    let i = c.loop-side.side-index in
    let numbers = c.loop-side.numbers in
    let origins = c.loop-side.origins.items in
    let are = c.loop-side.invariant in
    let lt : i < length ring_row = c.loop-side-test.true in
    let s : c.side-item.result ≡ get_or ring_row i 0 = c.side-item.is ∙ get_or_default ring_row i c.side-item.result 0 lt in
    let own : c.label_of.result ≡ label_at ring_row labels i = c.label_of.ensures ∙ ap (λ s. get_or labels s 0) s in
    let size = c.loop-side.auto.numbers in
    let inside : label_at ring_row labels i < length numbers = let h = c.requires.labels.below (get_or ring_row i 0) (c.requires.row.begin i lt).0 in omega (arith, h, size) in
    let same : get_or numbers c.label_of.result 0 ≡ get_or numbers (label_at ring_row labels i) 0 = ap (λ l. get_or numbers l 0) own in
    let P : List ℕ → List ℕ → Type 0 = λ numbers origins. AreNumberedIn mesh v ring_row (i + 1) labels numbers origins in
    elim (cases_eq (get_or numbers (label_at ring_row labels i) 0) nobody) [
      | inl unknown ↦
          let e = c.in_ok-number_label.ensures.first (same ∙ unknown) in
          let table = e.0 ∙ ap (λ l. set numbers l (length origins)) own in
          subst (λ ns. P ns c.number_label.new.origins.items) (sym table) (subst (P (set numbers (label_at ring_row labels i) (length origins))) (sym e.1)
          (numbered_new mesh v i ring_row labels numbers origins c.requires.row c.law_of_surface.ensures.few lt inside are unknown))
      | inr known ↦
          let e = c.in_ok-number_label.ensures.again (λ z. known (sym same ∙ z)) in
          subst (λ ns. P ns c.number_label.new.origins.items) (sym e.0) (subst (P numbers) (sym e.1)
          (numbered_again mesh v i ring_row labels numbers origins c.requires.row c.law_of_surface.ensures.few lt inside are known))
    ]

pub loop-side-init : goal.loop-side-init
loop-side-init c = numbered_start c.args.mesh.now c.args.v c.args.row.now c.args.labels.now c.args.numbers.now c.args.origins.now.items c.requires.so_far

pub returns-clause-numbered : goal.returns-clause-numbered
returns-clause-numbered c =
    let size = c.loop-side.auto.side-index-end in
    let all : c.loop-side.side-index ≡ length c.args.row.now = omega (arith, c.loop-side-test.false) in
    numbered_done c.args.mesh.now c.args.v c.loop-side.side-index c.args.row.now c.args.labels.now c.loop-side.numbers c.loop-side.origins.items c.requires.row all c.loop-side.invariant

pub number_label-requires-clause-few : goal.number_label-requires-clause-few
number_label-requires-clause-few c =
    let are = c.loop-side.invariant in
    let place = place_few c.args.mesh.now c.args.v c.loop-side.side-index are.0 c.args.row.now are.1 c.requires.row c.loop-side-test.true in
    let within = are.2.few in
    omega (arith, place, within, c.law_of_surface.ensures.few)
