use Rattle.surf_surfaces.proofs.Common.{◌≡◌, filter, range_with_len}
use Rattle.surf_class.specs.Sides.{is_inside}
use Rattle.surf_class.proofs.finding.list_inside.Given as goal

-- the faces before
abbrev pub invariant-loop-f : goal.invariant-loop-f
invariant-loop-f l = l.faces.items ≡ filter (is_inside l.parted.sides.now) (range_with_len 0 l.f)
