use Rattle.surf_basis.proofs.Common.{◌≡◌, ℕ, ◌<◌, List, All-permutation, IsPermutation, arith, subst, sym, written_back}
use Rattle.surf_basis.proofs.Meeting.{meets_in_any_order}
use Rattle.surf_basis.proofs.shortest.scattered_vertices.Goals as goal

-- what was scattered in place
permuted : (list old new items : List ℕ) → old ≡ list → IsPermutation old new → items ≡ new → IsPermutation list items
permuted list old new items is same last =
    subst (IsPermutation list) (sym last) (subst (λ (xs : List ℕ). IsPermutation xs new) is same)

pub returns-clause-inside : goal.returns-clause-inside
returns-clause-inside c =
    let last = written_back c.scatter.new.vertices _ c.in_ok-vertices.vertices.len (omega (arith, c.scatter.auto.vertices, c.deref_mut.ensures.len)) in
    All-permutation (λ v. v < c.args.mesh.now.vertices) c.in_ok-vertices.vertices.items _
    (permuted c.in_ok-vertices.vertices.items c.deref_mut.result.now c.scatter.new.vertices _ c.deref_mut.ensures.value c.scatter.ensures.same last)
    c.in_ok-vertices.ensures.inside

pub returns-clause-which : goal.returns-clause-which
returns-clause-which c =
    let last = written_back c.scatter.new.vertices _ c.in_ok-vertices.vertices.len (omega (arith, c.scatter.auto.vertices, c.deref_mut.ensures.len)) in (
      c.in_ok-vertices.vertices.items,
      c.in_ok-vertices.ensures.which,
      permuted c.in_ok-vertices.vertices.items c.deref_mut.result.now c.scatter.new.vertices _ c.deref_mut.ensures.value c.scatter.ensures.same last,
    )

pub returns-clause-met : goal.returns-clause-met
returns-clause-met c =
    let last = written_back c.scatter.new.vertices _ c.in_ok-vertices.vertices.len (omega (arith, c.scatter.auto.vertices, c.deref_mut.ensures.len)) in
    meets_in_any_order c.args.mesh.now c.in_ok-vertices.vertices.items _
    (permuted c.in_ok-vertices.vertices.items c.deref_mut.result.now c.scatter.new.vertices _ c.deref_mut.ensures.value c.scatter.ensures.same last)
    c.in_ok-vertices.ensures.met
