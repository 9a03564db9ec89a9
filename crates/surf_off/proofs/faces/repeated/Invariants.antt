use Rattle.std.proofs.Common.{◌≡◌, ◌≢◌, [], take, drop}
use Rattle.std.specs.List.{AllPairs}
use Rattle.surf_off.specs.Off.{first_repeat}
use Rattle.surf_off.proofs.Marks.{Marked}
use Rattle.surf_off.proofs.faces.repeated.Given as goal

abbrev pub invariant-loop-u : goal.invariant-loop-u
invariant-loop-u l = record {
  so_far : first_repeat (take l.u-index l.corners) (drop l.u-index l.corners) ≡ first_repeat [] l.corners;
  distinct : AllPairs (λ a b. a ≢ b) (take l.u-index l.corners);
  marked : Marked l.marks l.stamp (take l.u-index l.corners);
}
