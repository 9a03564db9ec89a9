use Rattle.std.proofs.Common.{◌≡◌, ◌≢◌, [], take, drop}
use Rattle.std.specs.List.{AllPairs}
use Rattle.surf_off.specs.Off.{first_repeat}
use Rattle.surf_off.proofs.faces.repeated_of_few.Given as goal

abbrev pub invariant-loop-i : goal.invariant-loop-i
invariant-loop-i l = record {
  so_far : first_repeat (take l.i l.corners) (drop l.i l.corners) ≡ first_repeat [] l.corners;
  distinct : AllPairs (λ a b. a ≢ b) (take l.i l.corners);
}
