use Rattle.surf_surfaces.proofs.Common.{sym, subst, List, ℕ, IsClosed, option_copied}
use Rattle.surf_class.proofs.Joint.{first_closed}
use Rattle.surf_class.proofs.parity.joint_flags.Goals as goal

pub turn_steps-requires-clause-closed : goal.turn_steps-requires-clause-closed
turn_steps-requires-clause-closed c =
    subst (λ (w : List ℕ). IsClosed c.args.mesh.now w) (sym c.vertices.ensures)
    (first_closed c.args.mesh.now c.args.first.now (option_copied c.args.second) c.requires.closed)
