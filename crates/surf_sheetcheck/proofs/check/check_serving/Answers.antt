use Rattle.surf_surfaces.proofs.Common.{◌≡◌, ℕ, List, length, get_or, ap, sym, subst, ◌∙◌, sum, get_or_default}
use Rattle.surf_base.specs.Tables.{at}
use Rattle.surf_treecheck.specs.First.{HoldsBelow, FailsFirst}
use Rattle.surf_sheetcheck.specs.Cocycles.{pair_at}
use Rattle.surf_sheetcheck.specs.Faults.{IsUnserved}
use Rattle.surf_sheetcheck.proofs.FaultSteps.{all_valid, sizes_total}
use Rattle.surf_sheetcheck.proofs.ServeLaws.{all_served, first_unserved}
use Rattle.surf_sheetcheck.proofs.check.check_serving.Goals as goal

pub returns-in-None-clause-valid : goal.returns-in-None-clause-valid
returns-in-None-clause-valid c =
    let case = c.args.case.now in
    let mesh = case.mesh.now in
    let lengths = case.lengths.now in
    let cert = case.cert.now in
    let none = subst (λ n. HoldsBelow n (λ j. at c.args.left.now.sets j ≡ 0)) (ap length c.edges.ensures.edges) c.in-None.ensures.first in (
      all_valid mesh lengths cert c.requires.rows c.requires.sheets (all_served case c.requires.ready c.args.left.now c.requires.left none),
      c.total_of.ensures.total ∙ ap sum c.deref.ensures.value ∙ sizes_total mesh lengths cert case.sizes.items c.requires.ready.sizes,
    )

pub returns-in-Some-clause-fault : goal.returns-in-Some-clause-fault
returns-in-Some-clause-fault c =
    let case = c.args.case.now in
    let mesh = case.mesh.now in
    let lengths = case.lengths.now in
    let cert = case.cert.now in
    let j = c.in-Some.place in
    let first = subst (λ n. FailsFirst n (λ k. at c.args.left.now.sets k ≡ 0) j) (ap length c.edges.ensures.edges) c.in-Some.ensures.first in
    let low = c.index-edges-place.result in
    let high = c.index-edges-place-in-Some.result in
    let near : get_or c.edges-in-Some.result.now j low ≡ pair_at cert j =
    ap (λ (xs : List (ℕ × ℕ)). get_or xs j low) c.edges-in-Some.ensures.edges ∙ get_or_default cert.edges j low (0, 0) first.below in
    let far : get_or c.edges-in-Some.result.now j high ≡ pair_at cert j =
    ap (λ (xs : List (ℕ × ℕ)). get_or xs j high) c.edges-in-Some.ensures.edges ∙ get_or_default cert.edges j high (0, 0) first.below in (
      c.requires.rows,
      c.requires.sheets,
      subst (IsUnserved mesh lengths cert)
          (ap (λ (q : ℕ × ℕ). (q.0, (pair_at cert j).1)) (sym near)
          ∙ ap (λ (q : ℕ × ℕ). ((get_or c.edges-in-Some.result.now j low).0, q.1)) (sym far))
          (first_unserved case c.requires.ready c.args.left.now c.requires.left c.requires.rows.pairs j first),
    )
