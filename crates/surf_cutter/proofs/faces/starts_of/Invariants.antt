use Rattle.surf_surfaces.proofs.Common.{◌≡◌, first_side}
use Rattle.surf_cutter.specs.Faces.{AreStartsTo}
use Rattle.surf_cutter.proofs.faces.starts_of.Given as goal

abbrev pub invariant-loop-f : goal.invariant-loop-f
invariant-loop-f l = record {
  starts : AreStartsTo l.mesh l.f l.starts.items;
  end : l.end ≡ first_side l.mesh l.f;
}
