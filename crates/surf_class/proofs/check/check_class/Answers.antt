use Rattle.surf_cert.proofs.Common.{◌≡◌, ◌≢◌, ◌<◌, true, ℕ, List, Bool, AllPairs, IfErr, sym, subst, pair_lt, edge_count, parity}
use Rattle.surf_class.proofs.Common.{AreFlags, null_faces, odd_pairs, IsEvidence, IsClassFault, ClassFault}
use Rattle.surf_class.specs.Seen.{seen}
use Rattle.surf_class.specs.declared.evidence.Evidence.{Evidence as Listed}
use Rattle.surf_class.specs.declared.fault.ClassFault.TheVariants.{Memory}
use Rattle.surf_class.proofs.Checking.{excluded, if_err_map}
use Rattle.surf_class.proofs.check.check_class.Goals as goal

pub returns-in-Null-clause-fault : goal.returns-in-Null-clause-fault
returns-in-Null-clause-fault c =
    let mesh = c.args.mesh.now in
    let chain = parity mesh c.args.walk.now in
    subst (λ (e : Listed). IfErr c.check_faces.result (IsClassFault mesh chain (seen e))) (sym c.in-Null.is)
    (c.check_faces.ensures.fault chain (subst (λ (xs : List Bool). AreFlags (edge_count mesh) chain xs) (sym c.deref.ensures.value) c.in_ok-flags.ensures.flags))

pub returns-in-Null-clause-excludes : goal.returns-in-Null-clause-excludes
returns-in-Null-clause-excludes c =
    let mesh = c.args.mesh.now in
    let chain = parity mesh c.args.walk.now in
    subst (λ (e : Listed). IfErr c.check_faces.result (λ (f : ClassFault). f ≢ Memory → IsEvidence mesh chain (seen e) → ⊥)) (sym c.in-Null.is)
    (if_err_map c.check_faces.result (IsClassFault mesh chain (null_faces _)) (λ (f : ClassFault). f ≢ Memory → IsEvidence mesh chain (null_faces _) → ⊥)
    (excluded mesh chain (null_faces _) c.law_of_faces.ensures.rises)
    (c.check_faces.ensures.fault chain (subst (λ (xs : List Bool). AreFlags (edge_count mesh) chain xs) (sym c.deref.ensures.value) c.in_ok-flags.ensures.flags)))

pub returns-clause-fault : goal.returns-clause-fault
returns-clause-fault c =
    let mesh = c.args.mesh.now in
    let chain = parity mesh c.args.walk.now in
    subst (λ (e : Listed). IfErr c.check_pairs.result (IsClassFault mesh chain (seen e))) (sym c.in-Odd.is)
    (c.check_pairs.ensures.fault chain (subst (λ (xs : List Bool). AreFlags (edge_count mesh) chain xs) (sym c.deref.ensures.value) c.in_ok-flags.ensures.flags))

pub returns-clause-excludes : goal.returns-clause-excludes
returns-clause-excludes c =
    let mesh = c.args.mesh.now in
    let chain = parity mesh c.args.walk.now in
    subst (λ (e : Listed). IfErr c.check_pairs.result (λ (f : ClassFault). f ≢ Memory → IsEvidence mesh chain (seen e) → ⊥)) (sym c.in-Odd.is)
    (if_err_map c.check_pairs.result (IsClassFault mesh chain (odd_pairs _)) (λ (f : ClassFault). f ≢ Memory → IsEvidence mesh chain (odd_pairs _) → ⊥)
    (excluded mesh chain (odd_pairs _) c.law_of_pairs.ensures.rises)
    (c.check_pairs.ensures.fault chain (subst (λ (xs : List Bool). AreFlags (edge_count mesh) chain xs) (sym c.deref.ensures.value) c.in_ok-flags.ensures.flags)))
