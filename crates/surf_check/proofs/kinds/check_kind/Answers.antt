use Rattle.std.proofs.lemmas.Result.{err_from_is_err_and}
use Rattle.surf_check.proofs.FaultLaws.{fault_only}
use Rattle.surf_check.proofs.kinds.check_kind.Goals as goal

pub returns-in_err-is_one_way-clause-excludes : goal.returns-in_err-is_one_way-clause-excludes
returns-in_err-is_one_way-clause-excludes c =
    let fault = c.in_err-is_one_way.field-0.0 in
    let e = err_from_is_err_and c.from_residual.result c.from_residual.ensures.1 in
    rw (e.1, e.2) (λ ne surface. ne (fault_only c.args.soup fault c.in_err-is_one_way.ensures.fault surface))
