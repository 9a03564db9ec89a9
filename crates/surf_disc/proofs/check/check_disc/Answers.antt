use Rattle.surf_surfaces.proofs.Common.{◌≡◌, IsDisc}
use Rattle.std.proofs.lemmas.Result.{IfErr-weaker}
use Rattle.surf_disc.specs.Fault.{IsDiscFault}
use Rattle.surf_disc.specs.declared.faults.DiscFault.TheVariants.{Memory}
use Rattle.surf_disc.proofs.FaultLaws.{fault_only}
use Rattle.surf_disc.proofs.check.check_disc.Goals as goal

pub returns-clause-only : goal.returns-clause-only
returns-clause-only c =
    let mesh = c.args.soup.now in
    IfErr-weaker c.find_fault.result (λ e. IsDiscFault mesh e) (λ e. IsDisc mesh → e ≡ Memory)
    (fault_only mesh) c.find_fault.ensures.fault
