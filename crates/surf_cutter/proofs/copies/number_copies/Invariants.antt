use Rattle.std.proofs.Common.{◌≡◌, length}
use Rattle.surf_cutter.specs.Copies.{AreNumberedTo}
use Rattle.surf_cutter.proofs.copies.number_copies.Given as goal

abbrev pub invariant-loop-v : goal.invariant-loop-v
invariant-loop-v l = record {
  numbered : AreNumberedTo l.mesh l.v l.labels l.numbers l.origins.items;
  size : length l.numbers ≡ length l.initial.numbers;
}
