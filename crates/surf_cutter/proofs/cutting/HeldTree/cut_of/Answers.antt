use Rattle.surf_slit.proofs.Common.{◌≡◌, ℕ, List, sym, subst, IfErr}
use Rattle.surf_cutter.proofs.Common.{Near, through, kind_of, IsNearFor}
use Rattle.surf_cutter.specs.declared.kind.CutKind.{CutKind}
use Rattle.surf_cutter.proofs.cutting.HeldTree.cut_of.Goals as goal

pub returns-in-Through-clause-near : goal.returns-in-Through-clause-near
returns-in-Through-clause-near c =
    let held = c.args.self in
    subst (λ (kind : CutKind). IfErr c.cut_at.result (λ e. e ≡ Near → IsNearFor held.mesh held.marks (kind_of kind))) (sym c.in-Through.is)
    (subst (λ (points : List ℕ). IfErr c.cut_at.result (λ e. e ≡ Near → IsNearFor held.mesh held.marks (through points))) c.deref.ensures.value c.cut_at.ensures.near)
