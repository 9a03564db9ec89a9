use Rattle.surf_surfaces.proofs.Common.{◌≡◌, take, flat_map}
use Rattle.surf_disc.specs.Border.{border_ends}
use Rattle.surf_disc.proofs.border.list_ends.Given as goal

abbrev pub invariant-loop-corner : goal.invariant-loop-corner
invariant-loop-corner l = l.row.items ≡ flat_map (border_ends l.next l.prev l.across l.tails)
    (take l.corner-index l.corners)
