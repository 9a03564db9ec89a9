use Rattle.surf_cert.proofs.Common.{◌<◌, ℕ, All, subst, sym, List, Bool, edge_count, face_count}
use Rattle.surf_class.proofs.Common.{is_listed, HoldsBelow, FailsFirst, AreFlags, AgreesAt}
use Rattle.surf_class.proofs.Checking.{null_right, null_wrong}
use Rattle.surf_class.proofs.check.check_faces.Goals as goal

pub face_flags-requires : goal.face_flags-requires
face_flags-requires c = record {
  faces = subst (λ (xs : List ℕ). All (λ f. f < face_count c.args.flagged.now.mesh.now) xs) (sym c.faces.ensures.list)
      c.in_default.ensures.face;
}

pub returns-in-Some-first_differing-clause-fault : goal.returns-in-Some-first_differing-clause-fault
returns-in-Some-first_differing-clause-fault c = λ chain are.
    let mesh = c.args.flagged.now.mesh.now in
    let flags = c.args.flagged.now.flags.now in
    null_wrong mesh c.law_of_surface.ensures.surface chain flags are c.args.list.now c.in_ok-inside.inside.items
    (subst (λ (xs : List ℕ). AreFlags (face_count mesh) (is_listed xs) c.in_ok-inside.inside.items) c.faces.ensures.list c.in_ok-inside.ensures.flags)
    c.in-Some-first_differing.edge c.ends-u.result.0 c.ends-u.result.1 c.in_default.ensures.face c.ends-u.ensures
    (subst (λ (xs : List Bool). FailsFirst (edge_count mesh) (AgreesAt mesh xs flags) c.in-Some-first_differing.edge) c.deref.ensures.value c.in-Some-first_differing.ensures.edge)

pub returns-clause-right : goal.returns-clause-right
returns-clause-right c = λ chain are.
    let mesh = c.args.flagged.now.mesh.now in
    let flags = c.args.flagged.now.flags.now in
    null_right mesh c.law_of_surface.ensures.surface chain flags are c.args.list.now c.in_ok-inside.inside.items
    (subst (λ (xs : List ℕ). AreFlags (face_count mesh) (is_listed xs) c.in_ok-inside.inside.items) c.faces.ensures.list c.in_ok-inside.ensures.flags)
    c.faces.ensures.rises c.in_default.ensures.face
    (subst (λ (xs : List Bool). HoldsBelow (edge_count mesh) (AgreesAt mesh xs flags)) c.deref.ensures.value c.in_default-first_differing.ensures.edge)
