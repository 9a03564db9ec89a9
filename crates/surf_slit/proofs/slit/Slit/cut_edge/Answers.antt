use Rattle.surf_slit.proofs.Common.{◌≡◌, ◌<◌, length, List, Bool, get_or, false, true, ℕ, ap, ◌∙◌, subst, sym, arith, get_or_default, length-set, same_lists, edge_count, set, AreLabels}
use Rattle.surf_slit.specs.Slit.{CutMesh}
use Rattle.surf_slit.proofs.VertexLabels.{set_back}
use Rattle.surf_slit.proofs.slit.Slit.cut_edge.Goals as goal

back : (cut : List Bool) (e : ℕ) → e < length cut → get_or cut e false ≡ false → set (set cut e true) e false ≡ cut
back cut e h free =
    let n = length-set cut e true in
    let m = length-set (set cut e true) e false in
    same_lists (set (set cut e true) e false) cut (m ∙ n) (λ k d lt.
    get_or_default (set (set cut e true) e false) k d false lt ∙ set_back cut e k h free ∙ get_or_default cut k false d (omega arith))

pub split_ends-self-inside-requires-clause-labels :
    goal.split_ends-self-inside-requires-clause-labels
split_ends-self-inside-requires-clause-labels c =
    let mesh = c.self.inside.mesh.now in
    let cut = c.self.inside.cut.items in
    let e = c.args.e in
    let lt : e < length cut = omega (arith, c.requires.edge, c.self.invariant.flags, ap (λ (s : CutMesh). edge_count s.mesh) c.self.view_is) in
    let free : get_or cut e false ≡ false = ap (λ (s : CutMesh). get_or s.cut e false) c.self.view_is ∙ c.requires.uncut in
    let flags : set c.deref.result.now e false ≡ cut = ap (λ (xs : List Bool). set xs e false) (c.deref.ensures.value ∙ ap (λ k. set cut k true) c.index.ensures) ∙ back cut e lt free in
    let P : List Bool → List ℕ → Type 0 = λ cut labels. AreLabels mesh cut labels c.self.inside.count in
    subst (λ cut. P cut c.deref_mut.result.now) (sym flags) (subst (P cut) (sym c.deref_mut.ensures.value) c.self.invariant.are_labels)
