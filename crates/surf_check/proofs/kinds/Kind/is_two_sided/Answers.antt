use Rattle.surf_surfaces.proofs.Common.{◌∙◌, IfOk, Bool, false, sym, ap, subst, MatchBool, Mesh, IsOrientable}
use Rattle.surf_check.specs.Kinds.{kept_mesh, IsKeptKind}
use Rattle.surf_check.specs.declared.kinds.Kept.{Kept}
use Rattle.surf_check.proofs.kinds.Kind.is_two_sided.Goals as goal

pub returns-in-OneWay : goal.returns-in-OneWay
returns-in-OneWay c =
    let same = sym (ap kept_mesh c.in-OneWay.is) ∙ c.self.view_is in
    let P : Kept → Type 0 = IsKeptKind in
    let known = subst P c.in-OneWay.is c.self.invariant in
    subst IsOrientable same ((λ _. false), known.1)

pub returns-in-Other : goal.returns-in-Other
returns-in-Other c =
    let same = sym (ap kept_mesh c.in-Other.is) ∙ c.self.view_is in
    let P : Mesh → Type 0 =
    λ mesh. IfOk c.are_two.result (λ (two : Bool). MatchBool two (IsOrientable mesh) (IsOrientable mesh → ⊥)) in
    subst P same c.are_two.ensures
