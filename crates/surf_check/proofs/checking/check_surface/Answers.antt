use Rattle.std.proofs.lemmas.Result.{err_from_is_err_and}
use Rattle.surf_check.proofs.FaultLaws.{fault_only}
use Rattle.surf_check.proofs.checking.check_surface.Goals as goal

pub returns-in_err-pairing-clause-excludes : goal.returns-in_err-pairing-clause-excludes
returns-in_err-pairing-clause-excludes c =
    let fault = c.in_err-pairing.field-0.0 in
    let e = err_from_is_err_and c.from_residual.result c.from_residual.ensures.1 in
    rw (e.1, e.2) (λ ne surface. ne (fault_only c.args.soup fault c.in_err-pairing.ensures.fault surface))

pub returns-in_err-test_joined-clause-excludes : goal.returns-in_err-test_joined-clause-excludes
returns-in_err-test_joined-clause-excludes c =
    let fault = c.in_err-test_joined.field-0.0 in
    let e = err_from_is_err_and c.from_residual-in_err-test_joined.result c.from_residual-in_err-test_joined.ensures.1 in
    rw (e.1, e.2) (λ ne surface. ne (fault_only c.args.soup fault c.in_err-test_joined.ensures.fault surface))
