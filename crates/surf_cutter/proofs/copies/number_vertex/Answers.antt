use Rattle.surf_slit.proofs.Common.{◌≡◌, ◌+◌, ◌<◌, ℕ, List, length, get_or, ap, refl, sym, ◌∙◌, subst, inl, inr, arith, cases_eq, get_or_default, on_ok_weaker, set}
use Rattle.surf_cutter.proofs.Common.{nobody, label_at, AreNumberedTo}
use Rattle.surf_cutter.proofs.OneLabel.{one_again, one_new}
use Rattle.surf_cutter.proofs.Sorted.{sorted_few}
use Rattle.surf_cutter.proofs.copies.number_vertex.Goals as goal

pub number_label-requires-clause-few : goal.number_label-requires-clause-few
number_label-requires-clause-few c =
    let are = c.requires.so_far in
    let all = sorted_few c.args.mesh.now c.args.v are.0 are.1 in
    let within = are.2.few in
    omega (arith, all, within, c.law_of_surface.ensures.few)

pub returns-then-have_one_label-clause-numbered : goal.returns-then-have_one_label-clause-numbered
returns-then-have_one_label-clause-numbered c =
    let mesh = c.args.mesh.now in
    let v = c.args.v in
    let labels = c.args.labels.now in
    let numbers = c.args.numbers.now in
    let origins = c.args.origins.now.items in
    let ring : List ℕ = c.ring-ring.result.now in
    let is = c.ring-ring.ensures.ring in
    let label : ℕ = label_at ring labels 0 in
    let one = c.if-have_one_label.ensures refl in
    let d : ℕ = c.index-ring-0.result in
    let side : d ≡ get_or ring 0 0 = c.index-ring-0.is ∙ get_or_default ring 0 d 0 is.some in
    let own : c.label_of.result ≡ label = c.label_of.ensures ∙ ap (λ s. get_or labels s 0) side in
    let inside : label < length numbers = c.requires.labels.below (get_or ring 0 0) (is.begin 0 is.some).0 in
    let same : get_or numbers c.label_of.result 0 ≡ get_or numbers label 0 = ap (λ l. get_or numbers l 0) own in
    let r = c.number_label.result in
    let P : List ℕ → List ℕ → Type 0 = λ numbers origins. AreNumberedTo mesh (v + 1) labels numbers origins in
    elim (cases_eq (get_or numbers label 0) nobody) [
      | inl unknown ↦ on_ok_weaker r (λ gives.
          let e = gives (same ∙ unknown) in
          let table = e.0 ∙ ap (λ l. set numbers l (length origins)) own in
          subst (λ ns. P ns c.number_label.new.origins.items) (sym table) (subst (P (set numbers label (length origins))) (sym e.1)
          (one_new mesh v ring labels is c.law_of_surface.ensures.few is.some one numbers origins inside unknown c.requires.so_far))) c.number_label.ensures.first
      | inr known ↦ on_ok_weaker r (λ gives.
          let e = gives (λ z. known (sym same ∙ z)) in
          subst (λ ns. P ns c.number_label.new.origins.items) (sym e.0) (subst (P numbers) (sym e.1)
          (one_again mesh v ring labels is c.law_of_surface.ensures.few is.some one numbers origins inside known c.requires.so_far))) c.number_label.ensures.again
    ]
