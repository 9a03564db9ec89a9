use Rattle.surf_surfaces.proofs.Common.{◌≡◌, ◌<◌, ◌+◌, Some, None, length, get_or, set, take, arith, subst, sym, ◌∙◌, ap, inl, inr, All, Contains, edges, pair_of, steps, get_or_default}
use Rattle.surf_base.specs.Tables.{at}
use Rattle.surf_sheetcheck.specs.Cocycles.{walk_set}
use Rattle.surf_sheetcheck.specs.Tables.{ArePartLabels}
use Rattle.surf_sheetcheck.proofs.LabelLaws.{part_none, part_kept, part_more, none_or_some}
use Rattle.surf_sheetcheck.proofs.labelling.label_part.Goals as goal

pub loop-place-init : goal.loop-place-init
loop-place-init c = record {
  sum = c.zero-sum.ensures;
  labels = part_none c.args.case.now.mesh.now c.args.case.now.cert.now c.args.task.now.part.items c.args.labels.now c.requires.room c.requires.none;
}

pub add_step-requires-clause-along : goal.add_step-requires-clause-along
add_step-requires-clause-along c =
    subst (λ xs. All (λ s. Contains (edges c.args.case.now.mesh.now) (pair_of s)) (steps xs)) (sym c.deref.ensures.value) c.requires.task.along

pub loop-place-preserved : goal.loop-place-preserved
loop-place-preserved c =
    let mesh = c.args.case.now.mesh.now in
    let cert = c.args.case.now.cert.now in
    let part = c.args.task.now.part.items in
    let n = c.loop-place.place in
    let labels = c.loop-place.labels in
    let inv = c.loop-place.invariant in
    let here : n < length part = search (arith, c.loop-place-test.true, c.len-place-end.ensures) in
    let sum : c.add_step.new.sum ≡ walk_set mesh cert (take (n + 1) part) =
    c.add_step.ensures.after ∙ ap (λ xs. walk_set mesh cert (take (n + 1) xs)) c.deref.ensures.value in
    let v : c.index.result.now ≡ at part n = c.index.ensures ∙ get_or_default part n c.index.result.now 0 here in
    let inside = c.requires.task.inside n 0 here in
    record {
      sum = sum;
      labels = elim (none_or_some (get_or labels (at part n) None)) [
        | inl free ↦
            let is : c.put_first.new.labels ≡ set labels (at part n) (Some c.add_step.new.sum) =
            c.in_ok-put_first.ensures.put (ap (λ x. get_or labels x None) v ∙ free)
            ∙ ap (λ x. set labels x (Some c.add_step.new.sum)) v in
            subst (ArePartLabels mesh cert part (n + 1)) (sym is)
            (part_more mesh cert part n labels inv.labels here inside c.add_step.new.sum sum free)
        | inr some ↦
            let is : c.put_first.new.labels ≡ labels = c.put_first.ensures.kept (λ none. some (sym (ap (λ x. get_or labels x None) v) ∙ none)) in
            subst (ArePartLabels mesh cert part (n + 1)) (sym is) (part_kept mesh cert part n labels inv.labels here inside some)
      ];
    }
