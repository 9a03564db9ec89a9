use Rattle.std.proofs.Common.{◌<◌, ◌^◌, length, subst}
use Rattle.surf_off.specs.Clean.{IsOffParts}
use Rattle.surf_off.specs.Off.{OffParts}
use Rattle.surf_off.proofs.text.OffText.header.Goals as goal

pub returns-clause-clean : goal.returns-clause-clean
returns-clause-clean c = subst IsOffParts c.self.view_is c.self.invariant.0

pub returns-clause-countable : goal.returns-clause-countable
returns-clause-countable c = subst (λ (p : OffParts). length p.vertex_lines < 2 ^ 64) c.self.view_is c.self.invariant.1
