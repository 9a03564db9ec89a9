use Rattle.std.proofs.Common.{◌≡◌, ◌<◌, length}
use Rattle.std.specs.List.{All}
use Rattle.surf_off.proofs.PlainLines.{SoFar}
use Rattle.surf_off.proofs.plain.plain_corners.Given as goal

abbrev pub invariant-loop : goal.invariant-loop
invariant-loop l = record {
  count : length l.corners.items ≡ l.counter;
  within : All (λ u. u < l.vertices) l.corners.items;
  so_far : SoFar l.vertices l.text l.corners.items l.behind;
}
