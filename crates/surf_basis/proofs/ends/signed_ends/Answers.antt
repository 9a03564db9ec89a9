use Rattle.surf_basis.proofs.Common.{IsBusierEnd, ◌≡◌, ℕ, Bool, List, false, replicate, sym, ap, ◌∙◌, subst, inl, inr, arith, IsTrue, slice_index, get_or-replicate, edge_count, AreDegreesTo, degree_in, is_signed, is_marked, written_back, none_marked}
use Rattle.std.proofs.lemmas.Result.{IfOk-weaker}
use Rattle.surf_basis.proofs.Ended.{each_listed, ends_listed, busier_by_table}
use Rattle.surf_basis.proofs.ends.signed_ends.Goals as goal

pub count_signed-requires-clause-none : goal.count_signed-requires-clause-none
count_signed-requires-clause-none c v v_in =
    let n = c.vertices.result in
    let fresh : c.deref_mut.result.now ≡ replicate n 0 =
    c.deref_mut.ensures.value ∙ c.in_ok-degrees.ensures.items_if_clones_equal (λ y same. same) in
    ap (λ (xs : List ℕ). slice_index xs v) fresh ∙ get_or-replicate n v 0 0 (omega (arith, v_in, c.vertices.ensures.count))

-- what is marked is the busier end of an edge
busier : (c : goal.After-drop-degrees-2) (v : ℕ) → IsTrue (is_marked c.mark_ends.new.marked v) →
    IsBusierEnd c.args.mesh.now c.args.signatures.now (degree_in c.args.mesh.now (is_signed c.args.signatures.now)) v
busier c v on =
    let mesh = c.args.mesh.now in
    let s = c.args.signatures.now in
    let n = c.vertices-2.result in
    let fresh : c.deref_mut-2.result.now ≡ replicate n false =
    c.deref_mut-2.ensures.value ∙ c.in_ok-marked.ensures.items_if_clones_equal (λ y same. same) in
    let read : c.deref.result.now ≡ c.count_signed.new.degrees =
    c.deref.ensures.value ∙ written_back c.count_signed.new.degrees _ c.in_ok-degrees.degrees.len
    (omega (arith, c.count_signed.auto.degrees, c.deref_mut.ensures.len)) in
    elim (c.mark_ends.ensures.only v on) [
      | inl was ↦ absurd (none_marked n v (subst (λ (ms : List Bool). IsTrue (is_marked ms v)) fresh was))
      | inr is ↦ busier_by_table mesh c.vertices-2.ensures.surface s c.deref.result.now
          (subst (λ (xs : List ℕ). AreDegreesTo mesh (is_signed s) (edge_count mesh) xs) (sym read) c.count_signed.ensures) v is
    ]

pub returns-clause-ends : goal.returns-clause-ends
returns-clause-ends c =
    let mesh = c.args.mesh.now in
    let s = c.args.signatures.now in
    let marked = c.mark_ends.new.marked in
    let table = c.deref-2.ensures.value ∙ written_back marked _ c.in_ok-marked.marked.len (omega (arith, c.mark_ends.auto.marked, c.deref_mut-2.ensures.len)) in
    IfOk-weaker c.list_marked.result _ _ (λ list h. record {
      each = ends_listed mesh c.vertices-2.ensures.surface s marked c.deref-2.result.now list.items table c.mark_ends.ensures.marks
          c.mark_ends.ensures.ends h;
      only = each_listed (IsBusierEnd mesh s (degree_in mesh (is_signed s))) marked c.deref-2.result.now list.items table h (busier c);
    }) c.list_marked.ensures.marked
