use Rattle.surf_finder.proofs.Common.{◌≡◌, ◌≤◌, ◌+◌, length, HasNone}
use Rattle.surf_finder.proofs.Numbered.{AreWaysTo}
use Rattle.surf_finder.proofs.ways.Ways.sum.Given as goal

abbrev pub invariant-loop-v : goal.invariant-loop-v
invariant-loop-v l = record {
  ways : AreWaysTo l.surface.mesh.now l.links.lengths l.base l.surface.signatures.now l.desk l.self l.v-index;
  none : HasNone l.self;
  count : length l.self.numbers ≡ l.surface.mesh.now.vertices;
  few : length l.self.classes ≤ l.v-index + 1;
}
